use Rattle.gp_port.proofs.port_machine.PortMachine.next_poll.Goals as goal

pub returns : goal.returns
returns c = rw (← c.self.view_is) c.next_poll.ensures
