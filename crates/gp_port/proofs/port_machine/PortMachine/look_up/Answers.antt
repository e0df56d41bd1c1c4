use Rattle.std.proofs.Common.{ap, ◌∙◌}
use Rattle.std.specs.Option.{is_some}
use Rattle.std.specs.FinSet.{contains}
use Rattle.gp_port.proofs.Tables.{admits, some_if}
use Rattle.gp_port.proofs.port_machine.PortMachine.look_up.Goals as goal

pub returns-clause-admitted : goal.returns-clause-admitted
returns-clause-admitted c =
    let a = c.self.inside in
    rw (← c.self.view_is)
    (ap is_some c.look_up.ensures ∙ some_if (contains a.units.admitted c.args.serial.now) _ ∙ admits a.units.admitted a.config.admitted c.args.serial.now c.self.invariant.configured.admitted)
