use Rattle.gp_port.proofs.Owed.{owes_assign}
use Rattle.gp_port.proofs.port_machine.PortMachine.owes_assign.Goals as goal

pub returns : goal.returns
returns c = rw (← c.self.view_is) (owes_assign c.args.onu c.args.serial c.self.inside.owed c.owes.result (λ h. c.owes.ensures.0 h) (λ h. c.owes.ensures.1 h))
