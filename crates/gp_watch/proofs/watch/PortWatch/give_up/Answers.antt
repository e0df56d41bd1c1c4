use Rattle.gp_watch.proofs.Watching.{given_up, indexed-given_up}
use Rattle.gp_watch.proofs.watch.PortWatch.give_up.Goals as goal

pub invariant_of-self : goal.invariant_of-self
invariant_of-self c =
    let q = c.self.inside in
    rw (c.give_up.ensures, c.release.ensures, c.holder.ensures) (indexed-given_up q.tables q.index q.unknown q.last q.to_come q.midway q.cut c.self.invariant c.args.onu)

pub returns : goal.returns
returns c =
    let q = c.self.inside in
    rw (c.give_up.ensures, c.release.ensures, ← c.self.view_is) (given_up q.tables q.index q.unknown q.last q.to_come q.midway q.cut c.args.onu c.holder.result)
