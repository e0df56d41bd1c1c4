use Rattle.gp_port.proofs.port_machine.PortMachine.alloc.Goals as goal

pub give_alloc-requires-clause-fits : goal.give_alloc-requires-clause-fits
give_alloc-requires-clause-fits c = (c.requires.sound.units.each c.args.serial c.args.row c.requires.has).fits
