use Rattle.std.proofs.Common.{◌∙◌}
use Rattle.gp_port.proofs.Tables.{admits}
use Rattle.gp_port.proofs.port_machine.PortMachine.disable.Goals as goal

pub disable-requires : goal.disable-requires
disable-requires c =
    let a = c.self.inside in
    record { admitted = admits a.units.admitted a.config.admitted c.args.serial.now c.self.invariant.configured.admitted ∙ rw (← c.self.view_is) at c.requires }
