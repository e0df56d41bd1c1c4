use Rattle.std.proofs.Common.{refl}
use Rattle.gp_unit.proofs.Kept.{below_limits}
use Rattle.gp_port.proofs.port_machine.PortMachine.alive.Goals as goal

pub count_poll-alarm-requires : goal.count_poll-alarm-requires
count_poll-alarm-requires c = below_limits c.args.self.now.config.alloc_last c.args.row (c.requires.sound.units.each c.args.serial c.args.row c.requires.has).fits

pub set_counts-requires : goal.set_counts-requires
set_counts-requires c = rw c.close_window.ensures c.requires.has

pub remove_unit-requires : goal.remove_unit-requires
remove_unit-requires c = rw c.close_window.ensures (c.args.row, c.requires.has, refl, (c.requires.sound.units.each c.args.serial c.args.row c.requires.has).fits)
