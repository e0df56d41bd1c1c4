use Rattle.std.proofs.Common.{rules}
use Rattle.gp_unit.proofs.operating.Operating.poll_closed.Goals as goal

pub returns-in_default-None : goal.returns-in_default-None
returns-in_default-None c = search rules

pub returns-in_default-Some : goal.returns-in_default-Some
returns-in_default-Some c = search rules
