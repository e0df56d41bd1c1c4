use Rattle.gp_port.proofs.port_machine.PortMachine.restart_unit.Goals as goal

pub restart-requires : goal.restart-requires
restart-requires c =
    let last = c.self.invariant.configured.alloc_last in
    record { active = rw (← c.self.view_is) at c.requires.has; sound = rw last (rw (← c.self.view_is) at c.requires.fits) }
