use Rattle.std.proofs.Common.{sym}
use Rattle.gp_encode.proofs.EndLemmas.{more_parts}
use Rattle.gp_encode.proofs.fields.ended.Goals as goal

pub returns-in-Some : goal.returns-in-Some
returns-in-Some c = rw c.in-Some.is (sym (more_parts _))
