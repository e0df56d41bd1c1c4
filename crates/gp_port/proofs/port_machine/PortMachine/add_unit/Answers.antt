use Rattle.std.proofs.Common.{◌∙◌}
use Rattle.gp_port.proofs.Tables.{admits}
use Rattle.gp_port.proofs.port_machine.PortMachine.add_unit.Goals as goal

pub add-requires-clause-admitted : goal.add-requires-clause-admitted
add-requires-clause-admitted c =
    let a = c.self.inside in
    admits a.units.admitted a.config.admitted c.args.serial c.self.invariant.configured.admitted ∙ rw (← c.self.view_is) at c.requires.admitted
