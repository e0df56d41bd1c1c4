use Rattle.std.proofs.Common.{ap}
use Rattle.gp_machine.specs.State.{PortState}
use Rattle.gp_port.proofs.SameUnits.{listed, refuse}
use Rattle.gp_port.proofs.port_machine.PortMachine.stands_for.Goals as goal

pub same_units-requires-clause-one : goal.same_units-requires-clause-one
same_units-requires-clause-one c = rw c.as_slice.ensures (listed c.self.inside.config c.self.inside.units c.self.inside.common c.self.inside.wanted c.self.inside.timer c.self.inside.window c.self.inside.owed c.self.inside.polled (rw (← c.self.view_is) at c.requires))

pub same_units-requires-clause-other : goal.same_units-requires-clause-other
same_units-requires-clause-other c = rw (c.as_slice.ensures, c.same_config.ensures.0 c.if-not-same_config.false) (listed c.image.inside.config c.image.inside.units c.image.inside.common c.image.inside.wanted c.image.inside.timer c.image.inside.window c.image.inside.owed c.image.inside.polled (c.image.invariant.1.sound))

pub returns-then-not-same_config : goal.returns-then-not-same_config
returns-then-not-same_config c = rw (← c.self.view_is, ← c.image.view_is) (refuse _ c.same_config.result c.if-not-same_config.true (λ e. c.same_config.ensures.1 (ap (λ (p : PortState). p.config) e)))

pub returns-then-not-same_units : goal.returns-then-not-same_units
returns-then-not-same_units c =
    rw (← c.self.view_is, ← c.image.view_is)
    (refuse _ c.same_units.result c.if-not-same_units.true
    (λ e. c.same_units.ensures.1 (record { rows = ap (λ (p : PortState). p.rows) e; disabled = ap (λ (p : PortState). p.disabled) e; cooling = ap (λ (p : PortState). p.cooling) e })))
