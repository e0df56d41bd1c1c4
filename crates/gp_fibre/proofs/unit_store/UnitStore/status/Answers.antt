use Rattle.std.proofs.Common.{◌≡◌, ◌≤◌, length, refl, sym, ap, ◌∙◌, Some}
use Rattle.std.specs.Prelude.{slice_get}
use Rattle.std.proofs.lemmas.Option.{slice_get_past, slice_get_read}
use Rattle.gp_onu.specs.declared.status.UnitStatus.{UnitStatus}
use Rattle.gp_fibre.proofs.StoredUnits.{status_nowhere, status_there}
use Rattle.gp_fibre.proofs.unit_store.UnitStore.status.Goals as goal

pub returns-in-Some : goal.returns-in-Some
returns-in-Some c =
    let i = c.self.inside in
    let stored = c.deref.result.now in
    let read : slice_get stored c.args.place ≡ Some c.in-Some.stored.now =
    slice_get_read stored (length stored) c.args.place c.in-Some.stored.now refl c.in-Some.ensures.lookup.3.0 c.in-Some.ensures.lookup.1 in
    let there : slice_get i.stored_units.items c.args.place ≡ Some c.in-Some.stored.now = rw c.deref.ensures.value at read in
    rw (← c.self.view_is)
    (ap (λ (status : UnitStatus). Some status) c.status.ensures ∙ sym (status_there i.mask i.frames i.stored_units.items i.timers c.self.invariant.0 c.args.place c.in-Some.stored.now there))

pub returns-in-None : goal.returns-in-None
returns-in-None c =
    let i = c.self.inside in
    let past : length i.stored_units.items ≤ c.args.place = rw c.deref.ensures.value at c.in-None.ensures.lookup.3 in
    rw (← c.self.view_is) (sym (status_nowhere i.frames i.stored_units.items c.args.place (slice_get_past i.stored_units.items c.args.place past)))
