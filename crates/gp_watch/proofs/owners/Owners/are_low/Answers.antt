use Rattle.gp_watch.proofs.Ages.{owners-low}
use Rattle.gp_watch.proofs.owners.Owners.are_low.Goals as goal

pub returns : goal.returns
returns c = rw (← c.self.view_is) (owners-low c.self.inside.ages c.self.inside.places.items c.self.invariant)
