use Rattle.gp_watch.proofs.Watching.{all_enabled, indexed-enabled}
use Rattle.gp_watch.proofs.watch.PortWatch.enable_all.Goals as goal

pub invariant_of-self : goal.invariant_of-self
invariant_of-self c =
    let q = c.self.inside in
    rw c.enable_all.ensures (indexed-enabled q.tables q.index q.unknown q.last q.to_come q.midway q.cut c.self.invariant)

pub returns : goal.returns
returns c =
    let q = c.self.inside in
    rw (c.enable_all.ensures, ← c.self.view_is) (all_enabled q.tables q.index q.unknown q.last q.to_come q.midway q.cut)
