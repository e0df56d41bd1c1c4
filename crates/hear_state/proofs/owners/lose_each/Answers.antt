use Rattle.std.proofs.Common.{◌≡◌, ◌<◌, ◌≢◌, length, ap, ◌∙◌, arith, get_or, get_or-set_other, get_or-set_same, below_more}
use Rattle.std.proofs.Math.ListN.{set, length-set}
use Rattle.hear_state.specs.declared.owners.Place.TheVariants as place
use Rattle.hear_state.specs.Owners.{lost_place}
use Rattle.hear_state.proofs.Tenures.{is_map}
use Rattle.hear_state.proofs.owners.lose_each.Goals as goal

pub loop-place-preserved : goal.loop-place-preserved
loop-place-preserved c =
    let places = c.loop-place.places in
    let i = c.loop-place.place-index in
    let new = c.lose_place.result in
    let within : i < length places = omega arith in
    let was = c.loop-place.invariant.rest i (omega arith) in
    record {
      long = length-set places i new ∙ c.loop-place.invariant.long;
      done = below_more (λ k. get_or (set places i new) k place.Unclear ≡ lost_place (get_or c.args.places.now k place.Unclear)) i
          (λ k less. let other : k ≢ i = omega arith in get_or-set_other places i k new place.Unclear other ∙ c.loop-place.invariant.done k less)
          (get_or-set_same places i new place.Unclear within ∙ c.lose_place.ensures ∙ ap (lost_place) was);
      rest = λ k past. let other : k ≢ i = omega arith in get_or-set_other places i k new place.Unclear other ∙ c.loop-place.invariant.rest k (omega arith);
    }

pub returns : goal.returns
returns c =
    is_map (lost_place) place.Unclear place.Unclear c.args.places.now c.loop-place.places c.loop-place.invariant.long
    (λ i within. c.loop-place.invariant.done i (let long = c.loop-place.invariant.long in omega (arith, long)))
