use Rattle.std.proofs.Common.{◌<◌, arith}
use Rattle.gp_watch.proofs.Ages.{owners-given, past-set}
use Rattle.gp_watch.proofs.owners.Owners.give.Goals as goal

pub invariant_of-self : goal.invariant_of-self
invariant_of-self c =
    let q = c.self.inside in
    let low : c.args.alloc < 4096 = omega (arith, c.requires) in
    rw (c.from-2.ensures, c.from.ensures) (past-set q.ages q.places.items c.self.invariant c.args.alloc low _ (c.ranges.onu.fits, omega arith))

pub returns : goal.returns
returns c =
    let q = c.self.inside in
    let low : c.args.alloc < 4096 = omega (arith, c.requires) in
    rw (c.from-2.ensures, c.from.ensures, ← c.self.view_is) (owners-given q.ages q.places.items c.self.invariant c.args.alloc low c.args.onu)
