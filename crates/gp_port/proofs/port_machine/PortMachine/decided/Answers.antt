use Rattle.std.proofs.Common.{rules}
use Rattle.gp_port.proofs.port_machine.PortMachine.decided.Goals as goal

pub returns-in-Ask : goal.returns-in-Ask
returns-in-Ask c = search rules
