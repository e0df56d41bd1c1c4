use Rattle.std.proofs.Common.{rules}
use Rattle.gp_port.proofs.port_core.PortCore.row_of.Goals as goal

pub returns-in-Some : goal.returns-in-Some
returns-in-Some g c = search rules
