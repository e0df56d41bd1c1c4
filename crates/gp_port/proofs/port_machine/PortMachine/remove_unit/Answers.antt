use Rattle.gp_port.proofs.Units.{each_fits}
use Rattle.gp_port.proofs.port_machine.PortMachine.remove_unit.Goals as goal

pub remove-requires : goal.remove-requires
remove-requires c =
    let kept = rw (← c.self.view_is) at c.requires in
    let last = c.self.invariant.configured.alloc_last in
    record { sound = λ row has. rw last (each_fits c.self.inside.units.rows c.args.serial.now c.self.inside.config.alloc_last kept.0 kept.1 kept.3 row has) }
