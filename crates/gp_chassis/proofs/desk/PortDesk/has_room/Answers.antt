use Rattle.std.proofs.Common.{rules}
use Rattle.gp_chassis.proofs.desk.PortDesk.has_room.Goals as goal

pub returns-then-entries-self : goal.returns-then-entries-self
returns-then-entries-self g c = search rules
