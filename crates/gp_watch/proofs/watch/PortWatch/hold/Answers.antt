use Rattle.std.proofs.Common.{ap, ◌∙◌, is_some}
use Rattle.std.specs.FinMap as map
use Rattle.gp_observer.specs.Observer.{is_of}
use Rattle.gp_observer.specs.Watch.{Watch}
use Rattle.gp_watch.proofs.Watching.{holding, indexed-holding}
use Rattle.gp_watch.proofs.watch.PortWatch.hold.Goals as goal

pub invariant_of-self : goal.invariant_of-self
invariant_of-self c =
    let q = c.self.inside in
    let s = c.args.serial.now in
    rw (c.set_holder.ensures, c.set_onu.ensures)
    (indexed-holding q.tables q.index q.unknown q.last q.to_come q.midway q.cut s c.self.invariant c.args.onu c.requires.low
    (ap (λ (w : Watch). map.get w.seen.holder c.args.onu) c.self.view_is ∙ c.requires.nobodys)
    (λ k. ap (λ (w : Watch). is_of w.seen s k) c.self.view_is ∙ c.requires.none k)
    (ap (λ (w : Watch). is_some (map.get w.asks s)) c.self.view_is ∙ c.requires.followed))

pub returns : goal.returns
returns c =
    let q = c.self.inside in
    rw (c.set_holder.ensures, c.set_onu.ensures, c.remove.ensures, c.from.ensures, ← c.self.view_is) (holding q.tables q.index q.unknown q.last q.to_come q.midway q.cut c.args.serial.now c.args.onu)
