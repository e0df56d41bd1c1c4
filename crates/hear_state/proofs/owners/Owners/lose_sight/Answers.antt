use Rattle.std.proofs.Common.{refl}
use Rattle.hear_rules.specs.Known.{Unclear}
use Rattle.hear_state.specs.declared.owners.Place.TheVariants as place
use Rattle.hear_state.proofs.Tenures.{owners_set}
use Rattle.hear_state.proofs.owners.Owners.lose_sight.Goals as goal

pub returns : goal.returns
returns c =
    let q = c.self.inside in
    rw (c.from.ensures, ← c.self.view_is) (owners_set q.tenures q.places.items c.self.invariant c.args.alloc place.Unclear Unclear refl)
