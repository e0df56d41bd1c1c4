use Rattle.std.proofs.Common.{◌≡◌, ℕ, ◌-◌, cond, None, Some, sym, ap, ◌∙◌, is_some}
use Rattle.std.specs.FinMap.{FinMap}
use Rattle.std.specs.FinMap as map
use Rattle.std.specs.Option.{option_map}
use Rattle.gp_ploam.specs.Serials.{serial_cmp}
use Rattle.gp_observer.specs.Watch.{Watch, asks_put, can_follow}
use Rattle.gp_watch.specs.declared.index.Followed.{Followed}
use Rattle.gp_watch.proofs.Followeds.{get-asks_of}
use Rattle.gp_watch.proofs.Watching.{left_there, asks_changed, indexed-asks, asks_with_new, on_ok}
use Rattle.gp_watch.proofs.watch.PortWatch.take_ask.Goals as goal

pub invariant_of-self : goal.invariant_of-self
invariant_of-self c =
    let q = c.self.inside in
    rw c.set_asks.ensures (indexed-asks q.tables q.index q.unknown q.last q.to_come q.midway q.cut c.args.serial.now c.self.invariant c.saturating_sub.result)

pub follow_new-requires : goal.follow_new-requires
follow_new-requires c = rw (← c.self.view_is) (get-asks_of c.self.inside.index c.args.serial.now ∙ ap (option_map (λ (f : Followed). f.asks)) (sym c.in-None.ensures))

pub returns-in-Some-clause-followed : goal.returns-in-Some-clause-followed
returns-in-Some-clause-followed c =
    let q = c.self.inside in
    rw (← c.self.view_is) (sym (ap is_some (left_there q.tables q.index q.unknown q.last q.to_come q.midway q.cut c.args.serial.now c.in-Some.followed (sym c.in-Some.ensures))))

pub returns-in-Some-clause-asks : goal.returns-in-Some-clause-asks
returns-in-Some-clause-asks c =
    let q = c.self.inside in
    rw (c.set_asks.ensures, ← c.self.view_is)
    (asks_changed q.tables q.index q.unknown q.last q.to_come q.midway q.cut c.args.serial.now c.in-Some.followed (sym c.in-Some.ensures) (λ a. a - 1) c.saturating_sub.result c.saturating_sub.ensures)

pub returns-in-None-clause-asks : goal.returns-in-None-clause-asks
returns-in-None-clause-asks c =
    let w : Watch = c.args.self.now in
    let s = c.args.serial.now in
    let none = ap (λ (v : Watch). map.get v.asks s) (sym c.self.view_is) ∙ get-asks_of c.self.inside.index s ∙ ap (option_map (λ (f : Followed). f.asks)) (sym c.in-None.ensures) in
    on_ok c.follow_new.result (λ b. b ≡ can_follow w s) (λ b. c.follow_new.new.self ≡ record w { asks = asks_put w.asks s (cond b (Some 0) None) }) _ c.follow_new.ensures.followed c.follow_new.ensures.asks
    (λ b is asks. asks ∙ ap (λ (a : FinMap serial_cmp ℕ). record w { asks = a }) (asks_with_new w s (λ a. a - 1) b none is))
