use Rattle.std.proofs.Common.{◌≡◌, ◌+◌, ◌<◌, length, ap, ◌∙◌, arith, refl, rules}
use Rattle.std.specs.FinMap.{remove}
use Rattle.std.specs.Prelude.{map}
use Rattle.std.proofs.lemmas.Grind.{common_steps}
use Rattle.gp_onu.specs.Table.{Frame}
use Rattle.gp_timers.specs.Timers.{Timers, IsFirstDue, NoneIsDue}
use Rattle.gp_fibre.specs.declared.world.TheConstants.{MAX_FRAMES}
use Rattle.gp_fibre.specs.Step.{unit_taking}
use Rattle.gp_fibre.specs.UnitStore.{UnitStoreState}
use Rattle.gp_fibre.proofs.StoredUnits.{next_units, store_in_frame, store_after_frame, is_ending, brought_stored, ending_due, ending_stored, in_frame_again, fewer, taken_out, indexed_there, indexed_after}
use Rattle.gp_fibre.proofs.unit_store.UnitStore.frame.Goals as goal

pub loop-name-init : goal.loop-name-init
loop-name-init c =
    let i = c.self.inside in
    let low : i.frames < MAX_FRAMES = rw (← c.self.view_is) at c.requires in (
      record {
        now = ap (λ (s : UnitStoreState). s.frames + 1) c.self.view_is;
        units = next_units i.mask i.frames (i.frames + 1) i.stored_units.items c.self.invariant.0.each ∙ ap (λ (s : UnitStoreState). map (unit_taking Frame) s.units) c.self.view_is;
        kept = store_in_frame i.mask i.frames i.stored_units.items i.timers low c.self.invariant.0;
      },
      c.self.invariant.1,
    )

pub index_mut-stored-requires : goal.index_mut-stored-requires
index_mut-stored-requires c =
    let i = c.loop-name.self-inside in
    let low = (is_ending i.mask i.frames i.stored_units.items i.timers c.in-Some.name c.loop-name.invariant.0.kept c.in-Some.ensures.first).low in
    grind (arith, common_steps)

pub pass-requires-clause-brought : goal.pass-requires-clause-brought
pass-requires-clause-brought c =
    let i = c.loop-name.self-inside in
    let place = c.from-place.result in
    let first : IsFirstDue i.timers.frames i.frames place = rw c.from-place.ensures c.in-Some.ensures.first in
    let x = c.index_mut-stored.result.now in
    (ending_stored c.args.self.now i.mask i.frames i.stored_units.items i.timers c.loop-name.invariant.0 place first x c.index_mut-stored.ensures.value (brought_stored i.frames x) refl).brought

pub pass-requires-clause-now : goal.pass-requires-clause-now
pass-requires-clause-now c =
    let i = c.loop-name.self-inside in
    let place = c.from-place.result in
    let first : IsFirstDue i.timers.frames i.frames place = rw c.from-place.ensures c.in-Some.ensures.first in
    let x = c.index_mut-stored.result.now in
    ending_due c.args.self.now i.mask i.frames i.stored_units.items i.timers c.loop-name.invariant.0 place first x c.index_mut-stored.ensures.value (brought_stored i.frames x) refl

pub renew_timer-requires-clause-place : goal.renew_timer-requires-clause-place
renew_timer-requires-clause-place c =
    let i = c.loop-name.self-inside in
    let kept = c.loop-name.invariant.0.kept in
    let low = (is_ending i.mask i.frames i.stored_units.items i.timers c.in-Some.name kept c.in-Some.ensures.first).low in
    let names : c.due.new.self.names ≡ length i.stored_units.items = ap (λ (t : Timers). t.names) c.in-Some.ensures.taken ∙ kept.names in
    omega (arith, c.from-place.ensures)

pub renew_timer-requires-clause-few : goal.renew_timer-requires-clause-few
renew_timer-requires-clause-few c =
    let i = c.loop-name.self-inside in
    let kept = c.loop-name.invariant.0.kept in
    let few = kept.few in
    let low = (is_ending i.mask i.frames i.stored_units.items i.timers c.in-Some.name kept c.in-Some.ensures.first).low in
    omega (arith, c.from-place.ensures)

pub renew_timer-requires-clause-before : goal.renew_timer-requires-clause-before
renew_timer-requires-clause-before c =
    let i = c.loop-name.self-inside in
    let place = c.from-place.result in
    let removed : c.due.new.self ≡ record i.timers { frames = remove i.timers.frames place } = rw c.from-place.ensures c.in-Some.ensures.taken in
    taken_out i.timers c.due.new.self place removed

pub change-requires-clause-place : goal.change-requires-clause-place
change-requires-clause-place c =
    let i = c.loop-name.self-inside in
    let kept = c.loop-name.invariant.0.kept in
    let few = kept.few in
    let low = (is_ending i.mask i.frames i.stored_units.items i.timers c.in-Some.name kept c.in-Some.ensures.first).low in
    omega (arith, c.from-place.ensures)

pub change-requires-clause-before : goal.change-requires-clause-before
change-requires-clause-before c =
    let i = c.loop-name.self-inside in
    let place = c.from-place.result in
    let first : IsFirstDue i.timers.frames i.frames place = rw c.from-place.ensures c.in-Some.ensures.first in
    let low = (is_ending i.mask i.frames i.stored_units.items i.timers place c.loop-name.invariant.0.kept first).low in
    indexed_there i.stored_units.items i.asked c.loop-name.invariant.1 place low c.index_mut-stored.result.now c.index_mut-stored.ensures.value
    c.asked_by-asked_before.result c.asked_by-asked_before.ensures

pub loop-name-smaller : goal.loop-name-smaller
loop-name-smaller c =
    let i = c.loop-name.self-inside in
    let place = c.from-place.result in
    let first : IsFirstDue i.timers.frames i.frames place = rw c.from-place.ensures c.in-Some.ensures.first in
    fewer c.args.self.now i.mask i.frames i.stored_units.items i.timers c.loop-name.invariant.0 place first c.index_mut-stored.result.now c.index_mut-stored.ensures.value
    c.pass.new.self c.pass.ensures c.due-due.result c.due-due.ensures.value c.due-due.ensures.later

pub loop-name-preserved : goal.loop-name-preserved
loop-name-preserved c =
    let i = c.loop-name.self-inside in
    let place = c.from-place.result in
    let first : IsFirstDue i.timers.frames i.frames place = rw c.from-place.ensures c.in-Some.ensures.first in
    let removed : c.due.new.self ≡ record i.timers { frames = remove i.timers.frames place } = rw c.from-place.ensures c.in-Some.ensures.taken in
    let low = (is_ending i.mask i.frames i.stored_units.items i.timers place c.loop-name.invariant.0.kept first).low in (
      in_frame_again c.args.self.now i.mask i.frames i.stored_units.items i.timers c.loop-name.invariant.0 place first c.index_mut-stored.result.now c.index_mut-stored.ensures.value
          c.pass.new.self c.pass.ensures c.due.new.self c.renew_timer.new.timers c.due-due.result removed c.due-due.ensures.value c.due-due.ensures.later c.renew_timer.ensures.names c.renew_timer.ensures.frames,
      indexed_after i.stored_units.items i.asked c.change.new.self place c.pass.new.self c.asked_by-asked_by.result c.loop-name.invariant.1 low
          c.asked_by-asked_by.ensures c.change.ensures,
    )

pub invariant_of-self : goal.invariant_of-self
invariant_of-self c =
    let i = c.loop-name.self-inside in
    let same : c.due.new.self ≡ i.timers = c.in_default.ensures.kept in
    let none : NoneIsDue i.timers.frames i.frames = c.in_default.ensures.none.0 (search rules) in
    (rw same (store_after_frame i.mask i.frames i.stored_units.items i.timers c.loop-name.invariant.0.kept none), c.loop-name.invariant.1)
