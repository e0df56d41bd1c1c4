use Rattle.gp_unit.proofs.Kept.{below_limits}
use Rattle.gp_port.proofs.port_machine.PortMachine.operating.Goals as goal

pub count_poll-requires : goal.count_poll-requires
count_poll-requires c = below_limits c.args.self.now.config.alloc_last c.args.row (c.requires.sound.units.each c.args.serial c.args.row c.requires.has).fits

pub set_counts-requires : goal.set_counts-requires
set_counts-requires c = rw c.close_window.ensures c.requires.has
