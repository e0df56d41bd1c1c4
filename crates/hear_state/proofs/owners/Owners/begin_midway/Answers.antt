use Rattle.hear_state.specs.declared.owners.Place.TheVariants as place
use Rattle.hear_state.proofs.Tenures.{owners_first, past_first, sure_first, first_tenures}
use Rattle.hear_state.proofs.owners.Owners.begin_midway.Goals as goal

pub invariant_of-result : goal.invariant_of-result
invariant_of-result c = rw c.in_ok-all_places.ensures (past_first first_tenures place.Unclear tt sure_first)

pub returns : goal.returns
returns c = rw c.in_ok-all_places.ensures (owners_first first_tenures 4096 place.Unclear)
