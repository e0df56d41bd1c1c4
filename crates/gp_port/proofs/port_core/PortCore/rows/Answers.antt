use Rattle.std.proofs.Common.{rules}
use Rattle.gp_port.proofs.port_core.PortCore.rows.Goals as goal

pub returns : goal.returns
returns g c = search rules
