use Rattle.std.proofs.Common.{Some, ℕ, suc, ◌+◌, sym, ap, ◌∙◌, arith}
use Rattle.std.specs.FinMap.{FinMap}
use Rattle.std.specs.FinMap as map
use Rattle.std.specs.Option.{option_map}
use Rattle.gp_ploam.specs.Serials.{serial_cmp}
use Rattle.gp_observer.specs.Watch.{Watch}
use Rattle.gp_watch.specs.declared.index.Followed.{Followed}
use Rattle.gp_watch.proofs.Followeds.{get-asks_of}
use Rattle.gp_watch.proofs.Watching.{asks_changed, indexed-asks, asks_with_new}
use Rattle.gp_watch.proofs.watch.PortWatch.note_ask.Goals as goal

pub invariant_of-self : goal.invariant_of-self
invariant_of-self c =
    let q = c.self.inside in
    rw c.set_asks.ensures (indexed-asks q.tables q.index q.unknown q.last q.to_come q.midway q.cut c.args.serial.now c.self.invariant (c.in-Some.followed.asks + 1))

pub follow_new-requires : goal.follow_new-requires
follow_new-requires c = rw (← c.self.view_is) (get-asks_of c.self.inside.index c.args.serial.now ∙ ap (option_map (λ (f : Followed). f.asks)) (sym c.in-None.ensures))

pub returns-else-followed-clause-ok : goal.returns-else-followed-clause-ok
returns-else-followed-clause-ok c =
    let q = c.self.inside in
    rw (c.set_asks.ensures, ← c.self.view_is)
    (asks_changed q.tables q.index q.unknown q.last q.to_come q.midway q.cut c.args.serial.now c.in-Some.followed (sym c.in-Some.ensures) (λ a. suc a) (c.in-Some.followed.asks + 1) (omega arith))

pub returns-in_ok-follow_new-in-None-clause-ok : goal.returns-in_ok-follow_new-in-None-clause-ok
returns-in_ok-follow_new-in-None-clause-ok c =
    let w : Watch = c.args.self.now in
    let none = ap (λ (v : Watch). map.get v.asks c.args.serial.now) (sym c.self.view_is) ∙ get-asks_of c.self.inside.index c.args.serial.now ∙ ap (option_map (λ (f : Followed). f.asks)) (sym c.in-None.ensures) in
    c.in_ok-follow_new-in-None.ensures.asks
    ∙ ap (λ (a : FinMap serial_cmp ℕ). record w { asks = a }) (asks_with_new w c.args.serial.now (λ a. suc a) c.in_ok-follow_new-in-None.field-0 none c.in_ok-follow_new-in-None.ensures.followed)

pub returns-then-followed-clause-fails : goal.returns-then-followed-clause-fails
returns-then-followed-clause-fails c =
    ap (λ (v : Watch). map.get v.asks c.args.serial.now) (sym c.self.view_is) ∙ get-asks_of c.self.inside.index c.args.serial.now
    ∙ ap (option_map (λ (f : Followed). f.asks)) (sym c.in-Some.ensures) ∙ ap Some c.if-followed.true
