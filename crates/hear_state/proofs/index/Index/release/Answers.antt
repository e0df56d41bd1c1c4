use Rattle.std.proofs.Common.{◌∙◌}
use Rattle.std.proofs.lemmas.List.{get_or_default}
use Rattle.hear_state.specs.Index.{IsPlaceOf, blank_place, released}
use Rattle.hear_state.proofs.Followeds.{changed_absent}
use Rattle.hear_state.proofs.Ranks.{changed_found, found_none}
use Rattle.hear_state.proofs.index.Index.release.Goals as goal

pub returns-in-Ok : goal.returns-in-Ok
returns-in-Ok c =
    let at : IsPlaceOf c.self.inside.places.items c.number.result c.in-Ok.at = rw c.as_slice.ensures.value at c.in-Ok.ensures.found in
    let read = c.index_mut.ensures.value ∙ get_or_default c.self.inside.places.items c.in-Ok.at c.index_mut.result.now blank_place at.within in
    rw (← c.self.view_is, ← c.number.ensures.serial)
    (changed_found c.self.inside.places.items c.number.result c.in-Ok.at c.index_mut.result.now released c.self.invariant at read)

pub returns-in_default : goal.returns-in_default
returns-in_default c =
    let none = found_none c.self.inside.places.items c.number.result _ c.number.ensures.fits c.self.invariant (rw c.as_slice.ensures.value at c.in_default.ensures.absent) in
    rw (← c.self.view_is, ← c.number.ensures.serial) (changed_absent _ _ released none)
