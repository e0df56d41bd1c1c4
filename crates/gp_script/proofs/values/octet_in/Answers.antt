use Rattle.std.proofs.Common.{w64}
use Rattle.std.proofs.lemmas.Int.{to_z-of_z}
use Rattle.gp_script.proofs.WalkLemmas.{handed_on}
use Rattle.gp_script.proofs.values.octet_in.Goals as goal

pub returns-in_err-octet : goal.returns-in_err-octet
returns-in_err-octet c =
    handed_on (λ n. n) _ _ _ c.from_residual.ensures.1
    (rw (c.new.ensures.start, c.new.ensures.end, c.from.ensures, to_z-of_z w64 c.args.number c.ranges.number) at c.in_err-octet.ensures.value)

pub returns : goal.returns
returns c =
    rw (c.new.ensures.start, c.new.ensures.end, c.from.ensures, to_z-of_z w64 c.args.number c.ranges.number) at c.in_ok-octet.ensures.value
