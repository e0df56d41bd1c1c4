use Rattle.std.proofs.Common.{◌+◌, Bool, ◌∙◌, ◌&&◌, ◌++◌, not, ap, drop, []}
use Rattle.gp_machine.specs.Config.{is_distinct}
use Rattle.gp_chassis.specs.Limits.{all_admitted}
use Rattle.gp_chassis.proofs.Admitted.{compared}
use Rattle.gp_chassis.proofs.admitted_once.are_apart.Goals as goal

pub returns-then-is_again : goal.returns-then-is_again
returns-then-is_again c =
    c.loop-i.invariant ∙ compared c.args.serials.now c.args.ports.now c.loop-i.i (record { 0 = [] }) c.is_again.result c.loop-i-test.true c.is_again.ensures
    ∙ ap (λ (b : Bool). not b && is_distinct (drop (c.loop-i.i + 1) c.args.serials.now ++ all_admitted c.args.ports.now)) c.if-is_again.true

pub loop-i-preserved : goal.loop-i-preserved
loop-i-preserved c =
    c.loop-i.invariant ∙ compared c.args.serials.now c.args.ports.now c.loop-i.i (record { 0 = [] }) c.is_again.result c.loop-i-test.true c.is_again.ensures
    ∙ ap (λ (b : Bool). not b && is_distinct (drop (c.loop-i.i + 1) c.args.serials.now ++ all_admitted c.args.ports.now)) c.if-is_again.false
