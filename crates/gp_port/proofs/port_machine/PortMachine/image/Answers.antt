use Rattle.std.proofs.Common.{rules}
use Rattle.gp_port.proofs.port_machine.PortMachine.image.Goals as goal

pub returns : goal.returns
returns c = search rules
