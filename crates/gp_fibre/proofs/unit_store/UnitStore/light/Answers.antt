use Rattle.std.proofs.Common.{◌<◌, ap, length}
use Rattle.std.proofs.lemmas.List.{length-map}
use Rattle.gp_onu.specs.Table.{UnitState, Light}
use Rattle.gp_fibre.proofs.StoredUnits.{takes, store_after, brought_fits, timer_there, indexed_there, indexed_after, stored_with}
use Rattle.gp_fibre.proofs.unit_store.UnitStore.light.Goals as goal

pub due-due_before-requires : goal.due-due_before-requires
due-due_before-requires c =
    let i = c.self.inside in
    let low : c.args.place < length i.stored_units.items = rw length-map at (rw (← c.self.view_is) at c.requires) in
    brought_fits i.mask i.frames i.stored_units.items i.timers c.self.invariant.0 c.args.place low c.index_mut-stored.result.now c.index_mut-stored.ensures.value

pub renew_timer-requires-clause-before : goal.renew_timer-requires-clause-before
renew_timer-requires-clause-before c =
    let i = c.self.inside in
    let low : c.args.place < length i.stored_units.items = rw length-map at (rw (← c.self.view_is) at c.requires) in
    timer_there i.mask i.frames i.stored_units.items i.timers c.self.invariant.0 c.args.place low c.index_mut-stored.result.now c.index_mut-stored.ensures.value
    c.due-due_before.result c.due-due_before.ensures.value

pub change-requires-clause-before : goal.change-requires-clause-before
change-requires-clause-before c =
    let i = c.self.inside in
    let low : c.args.place < length i.stored_units.items = rw length-map at (rw (← c.self.view_is) at c.requires) in
    indexed_there i.stored_units.items i.asked c.self.invariant.1 c.args.place low c.index_mut-stored.result.now c.index_mut-stored.ensures.value
    c.asked_by-asked_before.result c.asked_by-asked_before.ensures

pub invariant_of-self : goal.invariant_of-self
invariant_of-self c =
    let i = c.self.inside in
    let low : c.args.place < length i.stored_units.items = rw length-map at (rw (← c.self.view_is) at c.requires) in (
      store_after i.mask i.frames i.stored_units.items i.timers c.self.invariant.0 c.args.place low c.index_mut-stored.result.now c.index_mut-stored.ensures.value
          c.bring.new.self c.bring.ensures c.light.new.self c.renew_timer.new.timers c.due-due.result
          (ap (λ (u : UnitState). u.mask) c.light.ensures) c.due-due.ensures.value c.due-due.ensures.later c.renew_timer.ensures.names c.renew_timer.ensures.frames,
      indexed_after i.stored_units.items i.asked c.change.new.self c.args.place (stored_with c.bring.new.self c.light.new.self) c.asked_by-asked_by.result c.self.invariant.1 low
          c.asked_by-asked_by.ensures c.change.ensures,
    )

pub returns-clause-unit : goal.returns-clause-unit
returns-clause-unit c =
    let i = c.self.inside in
    let low : c.args.place < length i.stored_units.items = rw length-map at (rw (← c.self.view_is) at c.requires) in
    rw (← c.self.view_is)
    (takes i.mask i.frames i.stored_units.items i.timers c.self.invariant.0 c.args.place low c.index_mut-stored.result.now c.index_mut-stored.ensures.value
    c.bring.new.self c.bring.ensures c.light.new.self Light c.light.ensures)
