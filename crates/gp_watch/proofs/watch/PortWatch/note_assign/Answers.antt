use Rattle.std.proofs.Common.{◌-◌, sym, ap, ◌∙◌, is_some, arith}
use Rattle.std.specs.FinMap as map
use Rattle.gp_observer.specs.Watch.{Watch}
use Rattle.gp_watch.specs.Changes.{watch_assigned}
use Rattle.gp_watch.proofs.Noting.{followed_after, noted_low, noted_high, above}
use Rattle.gp_watch.proofs.watch.PortWatch.note_assign.Goals as goal

pub give_to-requires-clause-followed : goal.give_to-requires-clause-followed
give_to-requires-clause-followed c is =
    ap (λ (v : Watch). is_some (map.get v.asks c.args.serial.now)) c.in_ok-followed.ensures.asks
    ∙ followed_after c.args.self.now c.args.serial.now (λ a. a - 1) (sym c.in_ok-followed.ensures.followed ∙ is)

pub returns-then-onu-le-LAST_ONU-clause-ok : goal.returns-then-onu-le-LAST_ONU-clause-ok
returns-then-onu-le-LAST_ONU-clause-ok c =
    c.give_to.ensures
    ∙ ap (λ (v : Watch). watch_assigned v c.args.onu c.args.serial.now c.in_ok-followed.followed) c.in_ok-followed.ensures.asks
    ∙ noted_low c.args.self.now c.args.onu c.args.serial.now c.if-onu-le-LAST_ONU.true c.in_ok-followed.followed c.in_ok-followed.ensures.followed

pub returns-else-onu-le-LAST_ONU-clause-ok : goal.returns-else-onu-le-LAST_ONU-clause-ok
returns-else-onu-le-LAST_ONU-clause-ok c =
    c.in_ok-followed.ensures.asks ∙ noted_high c.args.self.now c.args.onu c.args.serial.now (above c.args.onu (omega (arith, c.if-onu-le-LAST_ONU.false)))
