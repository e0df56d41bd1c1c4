use Rattle.std.proofs.Common.{◌≡◌, ◌<◌, ◌≢◌, length, refl, sym, ◌∙◌, arith, get_or, get_or-set_other, get_or-set_same, below_more}
use Rattle.std.proofs.Math.ListN.{set}
use Rattle.std.proofs.Math.Seq.{map-set_same}
use Rattle.hear_state.specs.declared.index.IndexPlace.{IndexPlace}
use Rattle.hear_state.specs.Index.{blank_place, enabled_place}
use Rattle.hear_state.proofs.Rowed.{all_done}
use Rattle.hear_state.proofs.index.enable_each.Goals as goal

pub loop-place-preserved : goal.loop-place-preserved
loop-place-preserved c =
    let ps = c.loop-place.places in
    let i = c.loop-place.place-index in
    let new : IndexPlace = enabled_place (get_or ps i blank_place) in
    let within : i < length ps = omega arith in
    record {
      same = map-set_same enabled_place ps i new blank_place refl ∙ c.loop-place.invariant.same;
      done = below_more (λ k. enabled_place (get_or (set ps i new) k blank_place) ≡ get_or (set ps i new) k blank_place) i
          (λ k less. let other : k ≢ i = omega arith in rw (get_or-set_other ps i k new blank_place other) (c.loop-place.invariant.done k less))
          (rw (get_or-set_same ps i new blank_place within) refl);
    }

pub returns : goal.returns
returns c =
    sym (all_done enabled_place blank_place c.loop-place.places (λ i within. c.loop-place.invariant.done i (omega arith))) ∙ c.loop-place.invariant.same
