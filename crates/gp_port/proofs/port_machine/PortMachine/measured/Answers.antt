use Rattle.std.proofs.Common.{refl}
use Rattle.gp_port.proofs.port_machine.PortMachine.measured.Goals as goal

pub set_row-requires : goal.set_row-requires
set_row-requires c = rw (c.close_window.ensures, c.measured.ensures) (c.args.row, c.requires.has, refl, refl)
