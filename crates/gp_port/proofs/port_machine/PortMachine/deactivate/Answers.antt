use Rattle.std.proofs.Common.{refl, rules}
use Rattle.gp_port.proofs.port_machine.PortMachine.deactivate.Goals as goal

pub remove_unit-requires : goal.remove_unit-requires
remove_unit-requires c = (c.args.row, c.requires.has, refl, (c.requires.sound.units.each c.args.serial c.args.row c.requires.has).fits)

pub returns : goal.returns
returns c = search rules
