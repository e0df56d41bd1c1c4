use Rattle.gp_port.proofs.port_machine.PortMachine.again.Goals as goal

pub restart_unit-requires-clause-fits : goal.restart_unit-requires-clause-fits
restart_unit-requires-clause-fits c = (c.requires.sound.units.each c.args.serial c.args.row c.requires.has).fits
