use Rattle.std.proofs.Common.{sym, ap, ◌∙◌, is_some}
use Rattle.std.specs.FinMap as map
use Rattle.std.specs.FinSet as finset
use Rattle.gp_observer.specs.Observer.{is_of}
use Rattle.gp_observer.specs.Watch.{Watch}
use Rattle.gp_watch.specs.Changes.{watch_without}
use Rattle.gp_watch.proofs.Noting.{followed_after, noted_followed, noted_unfollowed}
use Rattle.gp_watch.proofs.watch.PortWatch.note_disable.Goals as goal

pub disable-requires : goal.disable-requires
disable-requires c =
    ap (λ (v : Watch). is_some (map.get v.asks c.args.serial.now)) c.give_up_of.ensures
    ∙ ap (λ (v : Watch). is_some (map.get v.asks c.args.serial.now)) c.in_ok-followed.ensures.asks
    ∙ followed_after c.args.self.now c.args.serial.now (λ a. a) (sym c.in_ok-followed.ensures.followed ∙ c.if-followed.true)

pub returns-then-followed-clause-ok : goal.returns-then-followed-clause-ok
returns-then-followed-clause-ok c =
    let s = c.args.serial.now in
    c.disable.ensures
    ∙ ap (λ (v : Watch). record v { seen = record v.seen { disabled = finset.insert v.seen.disabled s } }) (c.give_up_of.ensures ∙ ap (λ (v : Watch). watch_without v (is_of v.seen s)) c.in_ok-followed.ensures.asks)
    ∙ noted_followed c.args.self.now s (sym c.if-followed.true ∙ c.in_ok-followed.ensures.followed)

pub returns-else-followed-clause-ok : goal.returns-else-followed-clause-ok
returns-else-followed-clause-ok c =
    let s = c.args.serial.now in
    c.give_up_of.ensures ∙ ap (λ (v : Watch). watch_without v (is_of v.seen s)) c.in_ok-followed.ensures.asks
    ∙ noted_unfollowed c.args.self.now s (sym c.if-followed.false ∙ c.in_ok-followed.ensures.followed) (c.in_ok-followed.ensures.none c.if-followed.false)
