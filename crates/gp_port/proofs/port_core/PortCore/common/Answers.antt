use Rattle.std.proofs.Common.{rules}
use Rattle.gp_port.proofs.port_core.PortCore.common.Goals as goal

pub returns : goal.returns
returns g c = search rules
