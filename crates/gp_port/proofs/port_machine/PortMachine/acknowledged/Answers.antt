use Rattle.gp_port.proofs.port_machine.PortMachine.acknowledged.Goals as goal

pub acknowledge-requires-clause-fits : goal.acknowledge-requires-clause-fits
acknowledge-requires-clause-fits c = rw c.close_window.ensures (c.requires.sound.units.each c.args.serial c.args.row c.requires.has).fits
