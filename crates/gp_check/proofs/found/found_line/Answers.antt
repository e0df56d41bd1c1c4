use Rattle.std.proofs.Common.{append_assoc}
use Rattle.gp_check.proofs.found.found_line.Goals as goal

pub returns : goal.returns
returns c = rw (← c.in_ok-text.ensures) (simp append_assoc c.format.ensures.ok)
