use Rattle.std.proofs.Common.{◌==◌, true, false, sym, ap, ◌∙◌}
use Rattle.std.specs.FinMap as map
use Rattle.gp_observer.specs.Observer.{is_of}
use Rattle.gp_observer.specs.Watch.{Watch}
use Rattle.gp_watch.specs.Changes.{watch_without, watch_given, watch_assigned}
use Rattle.gp_watch.proofs.Noting.{nobody_left, none_left, both_given_up}
use Rattle.gp_watch.proofs.watch.PortWatch.give_to.Goals as goal

pub hold-requires-clause-nobodys : goal.hold-requires-clause-nobodys
hold-requires-clause-nobodys c =
    ap (λ (v : Watch). map.get v.seen.holder c.args.onu) c.give_up.ensures ∙ nobody_left c.give_up_of.new.self c.args.onu

pub hold-requires-clause-none : goal.hold-requires-clause-none
hold-requires-clause-none c k =
    ap (λ (v : Watch). is_of v.seen c.args.serial.now k) (c.give_up.ensures ∙ ap (λ (v : Watch). watch_without v (λ n. n == c.args.onu)) c.give_up_of.ensures)
    ∙ none_left c.args.self.now c.args.serial.now (λ n. n == c.args.onu) k

pub returns-then-followed : goal.returns-then-followed
returns-then-followed c =
    let both = c.give_up.ensures ∙ ap (λ (v : Watch). watch_without v (λ n. n == c.args.onu)) c.give_up_of.ensures ∙ both_given_up c.args.self.now c.args.onu c.args.serial.now c.requires.low in
    c.hold.ensures ∙ ap (λ (v : Watch). watch_given v c.args.onu c.args.serial.now true) both
    ∙ ap (watch_assigned c.args.self.now c.args.onu c.args.serial.now) (sym c.if-followed.true)

pub returns-else-followed : goal.returns-else-followed
returns-else-followed c =
    let both = c.give_up.ensures ∙ ap (λ (v : Watch). watch_without v (λ n. n == c.args.onu)) c.give_up_of.ensures ∙ both_given_up c.args.self.now c.args.onu c.args.serial.now c.requires.low in
    c.lose.ensures ∙ ap (λ (v : Watch). watch_given v c.args.onu c.args.serial.now false) both
    ∙ ap (watch_assigned c.args.self.now c.args.onu c.args.serial.now) (sym c.if-followed.false)
