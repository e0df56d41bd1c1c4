use Rattle.std.proofs.Common.{◌≡◌, None, true, sym, ap, ◌∙◌, arith, is_some}
use Rattle.std.specs.FinMap as map
use Rattle.gp_observer.specs.Watch.{Watch, can_follow}
use Rattle.gp_watch.proofs.Followeds.{followed_none}
use Rattle.gp_watch.proofs.Watching.{left_room, left_full, followed_new, indexed-new, on_err}
use Rattle.gp_watch.proofs.watch.PortWatch.follow_new.Goals as goal

pub returns-then-len-ge-MOST_FOLLOWED-clause-followed : goal.returns-then-len-ge-MOST_FOLLOWED-clause-followed
returns-then-len-ge-MOST_FOLLOWED-clause-followed c =
    let q = c.self.inside in
    let none = followed_none q.index c.args.serial.now (ap (λ (w : Watch). map.get w.asks c.args.serial.now) c.self.view_is ∙ c.requires) in
    rw (← c.self.view_is)
    (sym (ap is_some (left_full q.tables q.index q.unknown q.last q.to_come q.midway q.cut c.args.serial.now none (omega (arith, c.len.ensures, c.if-len-ge-MOST_FOLLOWED.true)))))

pub follow-requires : goal.follow-requires
follow-requires c = followed_none c.self.inside.index c.args.serial.now (ap (λ (w : Watch). map.get w.asks c.args.serial.now) c.self.view_is ∙ c.requires)

pub invariant_of-self-2 : goal.invariant_of-self-2
invariant_of-self-2 c =
    let q = c.self.inside in
    let none = followed_none q.index c.args.serial.now (ap (λ (w : Watch). map.get w.asks c.args.serial.now) c.self.view_is ∙ c.requires) in
    rw c.in_ok-follow.ensures.followed (indexed-new q.tables q.index q.unknown q.last q.to_come q.midway q.cut c.args.serial.now c.self.invariant c.args.asks none)

pub returns-clause-followed : goal.returns-clause-followed
returns-clause-followed c =
    let q = c.self.inside in
    let none = followed_none q.index c.args.serial.now (ap (λ (w : Watch). map.get w.asks c.args.serial.now) c.self.view_is ∙ c.requires) in
    rw (← c.self.view_is)
    (sym (ap is_some (left_room q.tables q.index q.unknown q.last q.to_come q.midway q.cut c.args.serial.now none (omega (arith, c.len.ensures, c.if-len-ge-MOST_FOLLOWED.false)))))

pub returns-clause-asks : goal.returns-clause-asks
returns-clause-asks c =
    let q = c.self.inside in
    let none = followed_none q.index c.args.serial.now (ap (λ (w : Watch). map.get w.asks c.args.serial.now) c.self.view_is ∙ c.requires) in
    rw (c.in_ok-follow.ensures.followed, ← c.self.view_is) (followed_new q.tables q.index q.unknown q.last q.to_come q.midway q.cut c.args.serial.now c.args.asks none)

pub returns-in_err-follow-clause-new : goal.returns-in_err-follow-clause-new
returns-in_err-follow-clause-new c =
    let q = c.self.inside in
    let none = followed_none q.index c.args.serial.now (ap (λ (w : Watch). map.get w.asks c.args.serial.now) c.self.view_is ∙ c.requires) in
    let room : can_follow c.args.self.now c.args.serial.now ≡ true =
    rw (← c.self.view_is)
    (ap is_some (left_room q.tables q.index q.unknown q.last q.to_come q.midway q.cut c.args.serial.now none (omega (arith, c.len.ensures, c.if-len-ge-MOST_FOLLOWED.false)))) in
    on_err c.from_residual.result ((map.get c.args.self.now.asks c.args.serial.now ≡ None) × (can_follow c.args.self.now c.args.serial.now ≡ true)) (c.requires, room)
