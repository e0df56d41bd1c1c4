use Rattle.std.proofs.Common.{rules}
use Rattle.gp_port.proofs.port_core.PortCore.is_disabled.Goals as goal

pub returns : goal.returns
returns g c = search rules
