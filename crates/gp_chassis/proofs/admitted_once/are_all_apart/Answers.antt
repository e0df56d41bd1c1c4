use Rattle.std.proofs.Common.{◌+◌, Bool, ◌∙◌, ◌&&◌, ap, sym, drop}
use Rattle.gp_machine.specs.Config.{is_distinct}
use Rattle.gp_chassis.specs.Limits.{all_admitted}
use Rattle.gp_chassis.proofs.Admitted.{ports_compared}
use Rattle.gp_chassis.proofs.admitted_once.are_all_apart.Goals as goal

pub returns-then-not-are_apart : goal.returns-then-not-are_apart
returns-then-not-are_apart c =
    sym
    (c.loop-i.invariant ∙ ports_compared c.args.ports.now c.loop-i.i c.index-ports-i.result _ c.are_apart.result c.loop-i-test.true c.as_slice.ensures c.are_apart.ensures
    ∙ ap (λ (b : Bool). b && is_distinct (all_admitted (drop (c.loop-i.i + 1) c.args.ports.now))) c.if-not-are_apart.true)

pub loop-i-preserved : goal.loop-i-preserved
loop-i-preserved c =
    c.loop-i.invariant ∙ ports_compared c.args.ports.now c.loop-i.i c.index-ports-i.result _ c.are_apart.result c.loop-i-test.true c.as_slice.ensures c.are_apart.ensures
    ∙ ap (λ (b : Bool). b && is_distinct (all_admitted (drop (c.loop-i.i + 1) c.args.ports.now))) c.if-not-are_apart.false
