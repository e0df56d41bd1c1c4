use Rattle.std.proofs.Common.{length, arith, ap}
use Rattle.gp_watch.proofs.Ages.{owner_is, owner_past}
use Rattle.gp_watch.proofs.owners.Owners.owner.Goals as goal

pub returns-then-place-places : goal.returns-then-place-places
returns-then-place-places c =
    let q = c.self.inside in
    let long = ap length c.as_slice-places.ensures.value in
    rw (← c.self.view_is) (owner_past q.ages q.places.items c.args.alloc (omega (arith, long, c.from-place.ensures, c.if-place-places.true)))

pub returns : goal.returns
returns c =
    let q = c.self.inside in
    rw (c.owner_in.ensures, c.as_slice-places.ensures.value, c.from-place.ensures, ← c.self.view_is) (owner_is q.ages q.places.items c.args.alloc)
