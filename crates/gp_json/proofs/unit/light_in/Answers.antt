use Rattle.std.proofs.Common.{refl}
use Rattle.gp_lines.proofs.PartsLemmas.{parts_some}
use Rattle.gp_json.proofs.unit.light_in.Goals as goal

pub returns-in_default-Some : goal.returns-in_default-Some
returns-in_default-Some c =
    let behind = parts_some c.in_default-Some.field-0-1.now in rw (c.in-Some.is, c.cut.ensures, c.in_default-Some.is-1, behind.2) refl
