use Rattle.std.proofs.Common.{None, sym, ap, ◌∙◌}
use Rattle.std.proofs.lemmas.List.{get_or_default}
use Rattle.gp_table.specs.declared.admission_index.IndexPlace.{IndexPlace}
use Rattle.gp_table.specs.Index.{IsPlaceOf, blank_place, key_in, with_key}
use Rattle.gp_table.proofs.Admissions.{changed_absent}
use Rattle.gp_table.proofs.Places.{changed_found, found_admission, found_none}
use Rattle.gp_table.proofs.admission_index.AdmissionIndex.take_key.Goals as goal

pub returns-in-Ok-clause-key : goal.returns-in-Ok-clause-key
returns-in-Ok-clause-key c =
    let at : IsPlaceOf c.self.inside.places.items c.number.result c.in-Ok.at = rw c.as_slice.ensures.value at c.in-Ok.ensures.found in
    let read = c.index.ensures ∙ get_or_default c.self.inside.places.items c.in-Ok.at c.index.result.now blank_place at.within in
    rw (← c.self.view_is, ← c.number.ensures.serial)
    (ap (λ (p : IndexPlace). p.admission.key) read ∙ sym (ap key_in (found_admission c.self.inside.places.items c.number.result c.in-Ok.at c.self.invariant at)))

pub returns-in-Ok-clause-rest : goal.returns-in-Ok-clause-rest
returns-in-Ok-clause-rest c =
    let at : IsPlaceOf c.self.inside.places.items c.number.result c.in-Ok.at = rw c.as_slice.ensures.value at c.in-Ok.ensures.found in
    let read = c.index_mut.ensures.value ∙ get_or_default c.self.inside.places.items c.in-Ok.at c.index_mut.result.now blank_place at.within in
    rw (← c.self.view_is, ← c.number.ensures.serial)
    (changed_found c.self.inside.places.items c.number.result c.in-Ok.at c.index_mut.result.now (with_key None) c.self.invariant at read)

pub returns-in-Err-clause-key : goal.returns-in-Err-clause-key
returns-in-Err-clause-key c =
    let none = found_none c.self.inside.places.items c.number.result _ c.number.ensures.fits c.self.invariant (rw c.as_slice.ensures.value at c.in-Err.ensures.absent) in
    rw (← c.self.view_is, ← c.number.ensures.serial) (sym (ap key_in none))

pub returns-in-Err-clause-rest : goal.returns-in-Err-clause-rest
returns-in-Err-clause-rest c =
    let none = found_none c.self.inside.places.items c.number.result _ c.number.ensures.fits c.self.invariant (rw c.as_slice.ensures.value at c.in-Err.ensures.absent) in
    rw (← c.self.view_is, ← c.number.ensures.serial) (changed_absent _ _ (with_key None) none)
