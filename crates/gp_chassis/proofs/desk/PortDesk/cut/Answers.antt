use Rattle.std.proofs.Common.{rules}
use Rattle.gp_chassis.proofs.desk.PortDesk.cut.Goals as goal

pub returns-clause-ok : goal.returns-clause-ok
returns-clause-ok g c = search rules
