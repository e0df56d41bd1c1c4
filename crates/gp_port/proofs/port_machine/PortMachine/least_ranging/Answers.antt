use Rattle.gp_port.proofs.port_machine.PortMachine.least_ranging.Goals as goal

pub returns : goal.returns
returns c = rw (← c.self.view_is) c.least_ranging.ensures
