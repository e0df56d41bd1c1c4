use Rattle.std.proofs.Common.{◌≡◌, ◌<◌, false, rules, List, ℕ, Option, ap, length, ◌∙◌}
use Rattle.std.specs.Option.{option_map}
use Rattle.std.proofs.lemmas.List.{length-map}
use Rattle.gp_ploam.specs.Mask.{mask_value}
use Rattle.gp_ploam.specs.Up.{code_of_up}
use Rattle.gp_onu.specs.Table.{UnitState, Granted, answer_to, unit_after}
use Rattle.gp_fibre.specs.declared.stored_unit.StoredUnit.{StoredUnit}
use Rattle.gp_fibre.specs.World.{FibreUnit}
use Rattle.gp_fibre.specs.UnitStore.{unit_at}
use Rattle.gp_fibre.specs.Step.{burst_with, unit_granted}
use Rattle.gp_fibre.proofs.StoredUnits.{changes, store_after, unanswered, brought_fits, timer_there, indexed_there, indexed_after, stored_with}
use Rattle.gp_fibre.proofs.unit_store.UnitStore.grant.Goals as goal

pub due-due_before-requires : goal.due-due_before-requires
due-due_before-requires c =
    let i = c.self.inside in
    let low : c.args.place < length i.stored_units.items = rw length-map at (rw (← c.self.view_is) at c.requires) in
    brought_fits i.mask i.frames i.stored_units.items i.timers c.self.invariant.0 c.args.place low c.index_mut-stored.result.now c.index_mut-stored.ensures.value

pub renew_timer-requires-clause-before : goal.renew_timer-requires-clause-before
renew_timer-requires-clause-before c =
    let i = c.self.inside in
    let low : c.args.place < length i.stored_units.items = rw length-map at (rw (← c.self.view_is) at c.requires) in
    timer_there i.mask i.frames i.stored_units.items i.timers c.self.invariant.0 c.args.place low c.index_mut-stored.result.now c.index_mut-stored.ensures.value
    c.due-due_before.result c.due-due_before.ensures.value

pub change-requires-clause-before : goal.change-requires-clause-before
change-requires-clause-before c =
    let i = c.self.inside in
    let low : c.args.place < length i.stored_units.items = rw length-map at (rw (← c.self.view_is) at c.requires) in
    indexed_there i.stored_units.items i.asked c.self.invariant.1 c.args.place low c.index_mut-stored.result.now c.index_mut-stored.ensures.value
    c.asked_by-asked_before.result c.asked_by-asked_before.ensures

pub invariant_of-self : goal.invariant_of-self
invariant_of-self c =
    let i = c.self.inside in
    let low : c.args.place < length i.stored_units.items = rw length-map at (rw (← c.self.view_is) at c.requires) in (
      store_after i.mask i.frames i.stored_units.items i.timers c.self.invariant.0 c.args.place low c.index_mut-stored.result.now c.index_mut-stored.ensures.value
          c.bring.new.self c.bring.ensures c.grant-answer.new.self c.renew_timer.new.timers c.due-due.result
          (ap (λ (u : UnitState). u.mask) c.grant-answer.ensures.after) c.due-due.ensures.value c.due-due.ensures.later c.renew_timer.ensures.names c.renew_timer.ensures.frames,
      indexed_after i.stored_units.items i.asked c.change.new.self c.args.place (stored_with c.bring.new.self c.grant-answer.new.self) c.asked_by-asked_by.result c.self.invariant.1 low
          c.asked_by-asked_by.ensures c.change.ensures,
    )

pub returns-clause-unit : goal.returns-clause-unit
returns-clause-unit c =
    let i = c.self.inside in
    let low : c.args.place < length i.stored_units.items = rw length-map at (rw (← c.self.view_is) at c.requires) in
    let x = c.index_mut-stored.result.now in
    let u = unit_at i.frames x in
    let same : c.grant-answer.new.self ≡ unit_after u.state (Granted c.args.grant x.random) =
    c.grant-answer.ensures.after ∙ ap (λ (s : StoredUnit). unit_after s.unit (Granted c.args.grant s.random)) c.bring.ensures in
    rw (← c.self.view_is)
    (record {
      units = changes i.mask i.frames i.stored_units.items i.timers c.self.invariant.0 c.args.place low x c.index_mut-stored.ensures.value
          c.bring.new.self c.bring.ensures c.grant-answer.new.self (unit_granted c.args.grant) (ap (λ (s : UnitState). let v : FibreUnit = record u { state = s } in v) same);
      answered = c.burst_of.ensures
          ∙ ap (λ (o : Option (List ℕ)). option_map (λ octets. burst_with c.bring.new.self.delay octets) o) c.grant-answer.ensures.answer
          ∙ ap (λ (s : StoredUnit). option_map (λ octets. burst_with s.delay octets) (option_map (λ m. code_of_up m (mask_value s.unit.mask)) (answer_to s.unit (Granted c.args.grant s.random)))) c.bring.ensures;
    })

pub returns-then-not-may_answer-clause-unit : goal.returns-then-not-may_answer-clause-unit
returns-then-not-may_answer-clause-unit c =
    let i = c.self.inside in
    let low : c.args.place < length i.stored_units.items = rw length-map at (rw (← c.self.view_is) at c.requires) in
    let no : c.may_answer.result ≡ false = search rules in
    rw (← c.self.view_is)
    (unanswered i.mask i.frames i.stored_units.items i.timers c.self.invariant.0 c.args.place low c.index.result.now c.index.ensures c.args.grant (c.may_answer.ensures.unanswered no))
