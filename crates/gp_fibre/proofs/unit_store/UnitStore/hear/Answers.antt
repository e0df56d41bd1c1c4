use Rattle.std.proofs.Common.{Some, ◌≡◌, ◌+◌, ◌<◌, false, rules, List, ℕ, ap, length, sym, subst, ◌∙◌}
use Rattle.std.proofs.lemmas.List.{length-map}
use Rattle.gp_ploam.specs.declared.check.Mask.{Mask}
use Rattle.gp_ploam.specs.Down.{ReadsDown, code_of_down}
use Rattle.gp_ploam.specs.Mask.{mask_value}
use Rattle.gp_onu.specs.Table.{UnitState, Hears, unit_after}
use Rattle.gp_fibre.specs.declared.stored_unit.StoredUnit.{StoredUnit}
use Rattle.gp_fibre.specs.World.{FibreUnit}
use Rattle.gp_fibre.specs.UnitStore.{unit_at}
use Rattle.gp_fibre.specs.Step.{unit_hearing}
use Rattle.gp_fibre.proofs.StoredUnits.{changes, code_for_each, code_there, passes, store_after, brought_mask, brought_fits, timer_there, indexed_there, indexed_after, stored_with}
use Rattle.gp_fibre.proofs.unit_store.UnitStore.hear.Goals as goal

-- the unit hears the code, which is read as the message
heard : (mask : Mask) (code : List ℕ) (old new : UnitState) (m : _) → code ≡ code_of_down m (mask_value mask) → old.mask ≡ mask
    → ReadsDown (code_of_down m (mask_value mask)) (mask_value mask) m
    → ((x : _) → ReadsDown code (mask_value old.mask) x → new ≡ unit_after old (Hears code x))
    → new ≡ unit_after old (Hears (code_of_down m (mask_value mask)) m)
heard mask code old new m is same reads law =
    law m (subst (λ (k : Mask). ReadsDown code (mask_value k) m) (sym same) (subst (λ (c : List ℕ). ReadsDown c (mask_value mask) m) (sym is) reads))
    ∙ ap (λ (c : List ℕ). unit_after old (Hears c m)) is

some_same : (a b : List ℕ) → Some a ≡ Some b → a ≡ b
some_same a b e = cc

pub due-due_before-requires : goal.due-due_before-requires
due-due_before-requires c =
    let i = c.self.inside in
    let low : c.args.place < length i.stored_units.items = rw length-map at (rw (← c.self.view_is) at c.requires.place) in
    brought_fits i.mask i.frames i.stored_units.items i.timers c.self.invariant.0 c.args.place low c.index_mut-stored.result.now c.index_mut-stored.ensures.value

pub renew_timer-requires-clause-before : goal.renew_timer-requires-clause-before
renew_timer-requires-clause-before c =
    let i = c.self.inside in
    let low : c.args.place < length i.stored_units.items = rw length-map at (rw (← c.self.view_is) at c.requires.place) in
    timer_there i.mask i.frames i.stored_units.items i.timers c.self.invariant.0 c.args.place low c.index_mut-stored.result.now c.index_mut-stored.ensures.value
    c.due-due_before.result c.due-due_before.ensures.value

pub change-requires-clause-before : goal.change-requires-clause-before
change-requires-clause-before c =
    let i = c.self.inside in
    let low : c.args.place < length i.stored_units.items = rw length-map at (rw (← c.self.view_is) at c.requires.place) in
    indexed_there i.stored_units.items i.asked c.self.invariant.1 c.args.place low c.index_mut-stored.result.now c.index_mut-stored.ensures.value
    c.asked_by-asked_before.result c.asked_by-asked_before.ensures

pub code_of-octets-requires-clause-made : goal.code_of-octets-requires-clause-made
code_of-octets-requires-clause-made c = λ octets made.
    let i = c.self.inside in
    let low : c.args.place < length i.stored_units.items = rw length-map at (rw (← c.self.view_is) at c.requires.place) in
    code_there i.mask i.frames i.stored_units.items i.timers c.self.invariant.0 c.args.place low c.index.result.now c.index.ensures c.args.message.now octets
    (rw (← c.self.view_is) at c.requires.code octets made)

pub invariant_of-self : goal.invariant_of-self
invariant_of-self c =
    let i = c.self.inside in
    let low : c.args.place < length i.stored_units.items = rw length-map at (rw (← c.self.view_is) at c.requires.place) in
    let x = c.index_mut-stored.result.now in
    let m = c.args.message.now in
    let b = c.bring.new.self in
    let masked : b.unit.mask ≡ i.mask =
    ap (λ (s : StoredUnit). s.unit.mask) c.bring.ensures ∙ brought_mask i.mask i.frames i.stored_units.items i.timers c.self.invariant.0 c.args.place low x c.index_mut-stored.ensures.value in
    let is = heard i.mask c.code_of-octets.result b.unit c.hear.new.self m c.code_of-octets.ensures.value masked (c.down_round_trip.ensures m (mask_value i.mask) c.requires.proper) c.hear.ensures.read in (
      store_after i.mask i.frames i.stored_units.items i.timers c.self.invariant.0 c.args.place low x c.index_mut-stored.ensures.value
          b c.bring.ensures c.hear.new.self c.renew_timer.new.timers c.due-due.result
          (ap (λ (u : UnitState). u.mask) is) c.due-due.ensures.value c.due-due.ensures.later c.renew_timer.ensures.names c.renew_timer.ensures.frames,
      indexed_after i.stored_units.items i.asked c.change.new.self c.args.place (stored_with c.bring.new.self c.hear.new.self) c.asked_by-asked_by.result c.self.invariant.1 low
          c.asked_by-asked_by.ensures c.change.ensures,
    )

pub returns-clause-code : goal.returns-clause-code
returns-clause-code c = λ octets made.
    let i = c.self.inside in
    let is : octets ≡ code_of_down c.args.message.now (mask_value i.mask) = some_same octets c.code_of-octets.result (sym made ∙ c.code_of-octets.ensures.made) ∙ c.code_of-octets.ensures.value in
    let kept = (invariant_of-self c).0 in
    code_for_each i.mask i.frames (i.frames + 1) _ c.args.message.now octets kept.each is

pub returns-clause-unit : goal.returns-clause-unit
returns-clause-unit c =
    let i = c.self.inside in
    let low : c.args.place < length i.stored_units.items = rw length-map at (rw (← c.self.view_is) at c.requires.place) in
    let x = c.index_mut-stored.result.now in
    let m = c.args.message.now in
    let b = c.bring.new.self in
    let brought = brought_mask i.mask i.frames i.stored_units.items i.timers c.self.invariant.0 c.args.place low x c.index_mut-stored.ensures.value in
    let masked : b.unit.mask ≡ i.mask = ap (λ (s : StoredUnit). s.unit.mask) c.bring.ensures ∙ brought in
    let is = heard i.mask c.code_of-octets.result b.unit c.hear.new.self m c.code_of-octets.ensures.value masked (c.down_round_trip.ensures m (mask_value i.mask) c.requires.proper) c.hear.ensures.read in
    let u = unit_at i.frames x in
    let same : c.hear.new.self ≡ unit_after u.state (Hears (code_of_down m (mask_value u.state.mask)) m) =
    is ∙ ap (λ (s : StoredUnit). unit_after s.unit (Hears (code_of_down m (mask_value i.mask)) m)) c.bring.ensures
    ∙ ap (λ (k : Mask). unit_after u.state (Hears (code_of_down m (mask_value k)) m)) (sym brought) in
    rw (← c.self.view_is)
    (changes i.mask i.frames i.stored_units.items i.timers c.self.invariant.0 c.args.place low x c.index_mut-stored.ensures.value
    b c.bring.ensures c.hear.new.self (unit_hearing m) (ap (λ (s : UnitState). let v : FibreUnit = record u { state = s } in v) same))

pub returns-then-not-may_notice-clause-unit : goal.returns-then-not-may_notice-clause-unit
returns-then-not-may_notice-clause-unit c =
    let i = c.self.inside in
    let low : c.args.place < length i.stored_units.items = rw length-map at (rw (← c.self.view_is) at c.requires.place) in
    let no : c.may_notice.result ≡ false = search rules in
    rw (← c.self.view_is)
    (passes i.mask i.frames i.stored_units.items i.timers c.self.invariant.0 c.args.place low c.index.result.now c.index.ensures c.args.message.now (c.may_notice.ensures.passed no))
