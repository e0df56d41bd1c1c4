use Rattle.std.proofs.Common.{refl}
use Rattle.gp_port.proofs.port_machine.PortMachine.acknowledge.Goals as goal

pub acknowledge-requires : goal.acknowledge-requires
acknowledge-requires c =
    let last = c.self.invariant.configured.alloc_last in
    record {
      active = rw (← c.self.view_is) at c.requires.has;
      sound = rw last (rw (← c.self.view_is) at c.requires.fits);
      operating = c.requires.operating;
      pending = rw c.requires.pending refl;
    }
