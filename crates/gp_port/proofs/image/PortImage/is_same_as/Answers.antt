use Rattle.std.proofs.Common.{ap, rules}
use Rattle.gp_machine.specs.State.{PortState}
use Rattle.gp_port.proofs.SameUnits.{listed, refuse}
use Rattle.gp_port.proofs.image.PortImage.is_same_as.Goals as goal

pub same_units-requires-clause-one : goal.same_units-requires-clause-one
same_units-requires-clause-one c = rw c.as_slice.ensures (listed c.self.inside.config c.self.inside.units c.self.inside.common c.self.inside.wanted c.self.inside.timer c.self.inside.window c.self.inside.owed c.self.inside.polled (c.self.invariant.1.sound))

pub same_units-requires-clause-other : goal.same_units-requires-clause-other
same_units-requires-clause-other c = rw (c.as_slice.ensures, c.same_config.ensures.0 c.if-not-same_config.false) (listed c.other.inside.config c.other.inside.units c.other.inside.common c.other.inside.wanted c.other.inside.timer c.other.inside.window c.other.inside.owed c.other.inside.polled (c.other.invariant.1.sound))

pub returns-then-not-same_config : goal.returns-then-not-same_config
returns-then-not-same_config c = rw (← c.self.view_is, ← c.other.view_is) (refuse _ c.same_config.result c.if-not-same_config.true (λ e. c.same_config.ensures.1 (ap (λ (p : PortState). p.config) e)))

pub returns-then-not-same_units : goal.returns-then-not-same_units
returns-then-not-same_units c =
    rw (← c.self.view_is, ← c.other.view_is)
    (refuse _ c.same_units.result c.if-not-same_units.true
    (λ e. c.same_units.ensures.1 (record { rows = ap (λ (p : PortState). p.rows) e; disabled = ap (λ (p : PortState). p.disabled) e; cooling = ap (λ (p : PortState). p.cooling) e })))

pub returns : goal.returns
returns c = search rules
