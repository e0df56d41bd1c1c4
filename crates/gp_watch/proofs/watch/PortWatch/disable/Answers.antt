use Rattle.std.proofs.Common.{true, ap, ◌∙◌, is_some}
use Rattle.std.specs.FinMap as map
use Rattle.gp_observer.specs.Watch.{Watch}
use Rattle.gp_watch.proofs.Followeds.{followed_by}
use Rattle.gp_watch.proofs.Watching.{disabled_now, indexed-marked}
use Rattle.gp_watch.proofs.watch.PortWatch.disable.Goals as goal

pub invariant_of-self : goal.invariant_of-self
invariant_of-self c =
    let q = c.self.inside in
    rw c.set_disabled.ensures (indexed-marked q.tables q.index q.unknown q.last q.to_come q.midway q.cut c.args.serial.now c.self.invariant true)

pub returns : goal.returns
returns c =
    let q = c.self.inside in
    let f = followed_by q.index c.args.serial.now (ap (λ (w : Watch). is_some (map.get w.asks c.args.serial.now)) c.self.view_is ∙ c.requires) in
    rw (c.set_disabled.ensures, ← c.self.view_is) (disabled_now q.tables q.index q.unknown q.last q.to_come q.midway q.cut c.args.serial.now f.0 f.1)
