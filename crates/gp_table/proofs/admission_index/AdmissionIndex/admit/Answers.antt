use Rattle.std.proofs.Common.{◌∙◌}
use Rattle.gp_table.specs.Index.{IsPlaceOf, fresh_admission}
use Rattle.gp_table.proofs.Admissions.{admitting_known, admitting_new}
use Rattle.gp_table.proofs.Places.{admissions_of-insert, found_admission, found_none}
use Rattle.gp_table.proofs.admission_index.AdmissionIndex.admit.Goals as goal

pub returns-in_ok-insert : goal.returns-in_ok-insert
returns-in_ok-insert c =
    let places = c.self.inside.places.items in
    let gap = rw c.as_slice.ensures.value at c.in-Err.ensures.absent in
    rw (c.in_ok-insert.ensures.items, ← c.self.view_is, ← c.number-rank.ensures.serial)
    (admissions_of-insert places c.number-rank.result c.in-Err.at fresh_admission c.number-rank.ensures.fits c.self.invariant gap
    ∙ admitting_new _ _ (found_none places c.number-rank.result _ c.number-rank.ensures.fits c.self.invariant gap))

pub returns-in_default : goal.returns-in_default
returns-in_default c =
    let at : IsPlaceOf c.self.inside.places.items c.number-rank.result c.in_default.field-0 = rw c.as_slice.ensures.value at c.in_default.ensures.found in
    rw (← c.self.view_is, ← c.number-rank.ensures.serial)
    (admitting_known _ _ _ (found_admission c.self.inside.places.items c.number-rank.result c.in_default.field-0 c.self.invariant at))
