use Rattle.std.proofs.Common.{false}
use Rattle.gp_watch.proofs.Watching.{enabled_now, indexed-marked}
use Rattle.gp_watch.proofs.watch.PortWatch.enable.Goals as goal

pub invariant_of-self : goal.invariant_of-self
invariant_of-self c =
    let q = c.self.inside in
    rw c.set_disabled.ensures (indexed-marked q.tables q.index q.unknown q.last q.to_come q.midway q.cut c.args.serial.now c.self.invariant false)

pub returns : goal.returns
returns c =
    let q = c.self.inside in
    rw (c.set_disabled.ensures, ← c.self.view_is) (enabled_now q.tables q.index q.unknown q.last q.to_come q.midway q.cut c.args.serial.now)
