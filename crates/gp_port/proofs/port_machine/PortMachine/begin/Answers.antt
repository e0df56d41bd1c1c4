use Rattle.std.proofs.Common.{rules}
use Rattle.gp_port.proofs.port_machine.PortMachine.begin.Goals as goal

pub returns-clause-opening : goal.returns-clause-opening
returns-clause-opening c = search rules
