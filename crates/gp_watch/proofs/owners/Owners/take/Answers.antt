use Rattle.std.proofs.Common.{◌<◌, arith, None}
use Rattle.gp_watch.proofs.Ages.{owners-taken, past-set}
use Rattle.gp_watch.proofs.owners.Owners.take.Goals as goal

pub invariant_of-self : goal.invariant_of-self
invariant_of-self c =
    let q = c.self.inside in
    let low : c.args.alloc < 4096 = omega (arith, c.requires) in
    rw c.from.ensures (past-set q.ages q.places.items c.self.invariant c.args.alloc low None tt)

pub returns : goal.returns
returns c =
    let q = c.self.inside in
    let low : c.args.alloc < 4096 = omega (arith, c.requires) in
    rw (c.from.ensures, ← c.self.view_is) (owners-taken q.ages q.places.items c.self.invariant c.args.alloc low)
