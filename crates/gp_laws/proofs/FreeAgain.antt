-- An ONU-ID that was freed is free again after its quarantine.
use Rattle.std.proofs.Common.{◌≡◌, ℕ, ◌+◌, ◌<◌, ◌≤◌, ◌==◌, false, List, [], ◌∷◌, ◌⊎◌, inl, inr, refl, sym, ap, subst, ◌∙◌, arith, get_or, set}
use Rattle.std.specs.Prelude.{◌-◌, ◌≢◌, All}
use Rattle.std.proofs.lemmas.Bool.{cases_Bool, eqb-true, eqb-false}
use Rattle.std.proofs.lemmas.List.{get_or-set_other}
use Rattle.std.proofs.lemmas.List.Elements.{All-head, All-tail}
use Rattle.std.proofs.lemmas.List.Sums.{sum_by-cons}
use Rattle.std.proofs.Math.ListN.{get_or-map}
use Rattle.gp_ploam.specs.declared.message.Serial.{Serial}
use Rattle.gp_ploam.specs.declared.message.Down.TheVariants as down
use Rattle.gp_ploam.specs.OnuIds.{onu_ids}
use Rattle.gp_ploam.specs.Serials.{same_serial}
use Rattle.gp_unit.specs.declared.row.Row.{Row}
use Rattle.gp_unit.specs.Rows.{row_popped_up}
use Rattle.gp_unit.proofs.Kept.{popped_onu}
use Rattle.gp_machine.specs.declared.config.PortConfig.{PortConfig}
use Rattle.gp_machine.specs.declared.entry.Entry.{Entry}
use Rattle.gp_machine.specs.declared.event.Event.{Event}
use Rattle.gp_machine.specs.declared.event.Event.TheVariants as event
use Rattle.gp_machine.specs.declared.reply.Reply.TheVariants.{Found}
use Rattle.gp_machine.specs.State.{PortState, Rows, HasRow, cooling_of, rows_of}
use Rattle.gp_machine.specs.Sound.{IsSound}
use Rattle.gp_machine.specs.Changes.{Change, StepResult, Owes, AddsUnit, SetsRow, RemovesUnit, PopsUpAll, state_after_change, state_after}
use Rattle.gp_machine.specs.Responses.{changes_with}
use Rattle.gp_machine.specs.Step.{state_at}
use Rattle.gp_machine.specs.Run.{IsStep, Run, entry_outcome}
use Rattle.gp_machine.proofs.Units.{has_put, has_left, has_mapped}
use Rattle.gp_machine.proofs.Steps.{sound_step}
use Rattle.gp_laws.specs.Numbers.{HasOnuId}
use Rattle.gp_laws.specs.Polls.{poll_end}
use Rattle.gp_laws.specs.Quarantine.{frames_of, frames_in, FreedOnuIdsAreFreeAgain}
use Rattle.gp_laws.proofs.WholeRuns.{step_config, every_state, keeps_configuration, config_after}
use Rattle.gp_laws.proofs.AnyFree.{may_pick}
use Rattle.gp_laws.proofs.Orderly.{KeepsOnuId, KeepOnuIds}
use Rattle.gp_laws.proofs.OrderlyFrames.{orderly_step}
use Rattle.gp_laws.proofs.Losing.{start_rows}
use Rattle.gp_laws.proofs.Resting.{step_frees}
use Rattle.gp_laws.proofs.PollAnswers.{counted_step, IsFound, ComesFrom}

-- ---- who holds an ONU-ID

-- no unit holds this ONU-ID
abbrev IsUnheld : ℕ → Rows → Type 0
IsUnheld n rows = (s : Serial) → HasOnuId rows s n → ⊥

-- a unit that holds an ONU-ID after a step held it before, or was found with it
step_holder : (p q : PortState) (e : Entry) (s : Serial) (n : ℕ) → IsSound p → IsStep p e q → HasOnuId q.rows s n → (e.answer.reply ≡ Found n) ⊎ HasOnuId p.rows s n
step_holder p q e s n sound step held = by_row ((counted_step e.purse_in p e.event (entry_outcome e q) sound step).rows s held.0 held.1)
  where
    by_row : IsFound p (entry_outcome e q) s held.0 ⊎ ComesFrom p (poll_end p.window e.event e.answer.reply) s held.0 → (e.answer.reply ≡ Found n) ⊎ HasOnuId p.rows s n
    by_row (inl new) = inl (new.1 ∙ ap (λ (m : ℕ). Found m) held.2)
    by_row (inr old) = inr (old.0, old.1, sym old.2.onu ∙ held.2)

-- ---- the count of an ONU-ID that no unit holds

-- no change but the removal of a unit with it touches the count
removes_other : (p : PortState) (n : ℕ) (s : Serial) (m : ℕ) (row : Row) → IsUnheld n p.rows → HasRow p.rows s row → row.onu ≡ m → get_or (set p.cooling m p.config.quarantine) n 0 ≡ get_or p.cooling n 0
removes_other p n s m row unheld has same =
    elim (cases_Bool (n == m)) [
      | inl b ↦ absurd (unheld s (row, has, same ∙ sym (eqb-true n m b)))
      | inr b ↦ get_or-set_other p.cooling m n p.config.quarantine 0 (eqb-false n m b)
    ]

-- a change that doesn't give it leaves it unheld, and touches no count of it
change_unheld : (p : PortState) (n : ℕ) (change : Change) (later : List Change) → KeepsOnuId p change later → IsUnheld n p.rows
    → ((s : Serial) (row : Row) → change ≡ AddsUnit s row → ⊥) → IsUnheld n (state_after_change p change).rows × (cooling_of (state_after_change p change) n ≡ cooling_of p n)
change_unheld p n (AddsUnit t row) later k unheld none = absurd (none t row refl)
change_unheld p n (SetsRow t new) later k unheld none = (λ s h. by_serial s h (has_put p.rows t new s h.0 h.1), refl)
  where
    by_serial : (s : Serial) (h : HasOnuId (state_after_change p (SetsRow t new)).rows s n) → ((s ≡ t) × (new ≡ h.0)) ⊎ ((same_serial s t ≡ false) × HasRow p.rows s h.0) → ⊥
    by_serial s h (inl here) = unheld t (k.0, k.1, sym k.2 ∙ ap (λ (r : Row). r.onu) here.1 ∙ h.2)
    by_serial s h (inr there) = unheld s (h.0, there.1, h.2)
change_unheld p n (RemovesUnit t m) later k unheld none = (λ s h. unheld s (h.0, (has_left p.rows t s h.0 h.1).1, h.2), removes_other p n t m k.0 unheld k.1 k.2)
change_unheld p n PopsUpAll later k unheld none = (λ s h. before s h (has_mapped (λ (row : Row). row_popped_up row row.phase) p.rows s h.0 h.1), refl)
  where
    before : (s : Serial) (h : HasOnuId (state_after_change p PopsUpAll).rows s n) → (row : Row) × HasRow p.rows s row × (row_popped_up row row.phase ≡ h.0) → ⊥
    before s h b = unheld s (b.0, b.1, sym (popped_onu b.0 b.0.phase) ∙ ap (λ (r : Row). r.onu) b.2 ∙ h.2)
change_unheld p n change later k unheld none = (unheld, refl)

-- whether a change gives a number to a unit
added : (change : Change) → ((s : Serial) × (row : Row) × (change ≡ AddsUnit s row)) ⊎ ((s : Serial) (row : Row) → change ≡ AddsUnit s row → ⊥)
added (AddsUnit s row) = inl (s, row, refl)
added change = inr (λ s row e. cc)

changes_unheld : (p : PortState) (n : ℕ) (changes : List Change) → KeepOnuIds p changes → IsUnheld n p.rows → cooling_of (state_after p changes) n ≡ cooling_of p n
changes_unheld p n [] k unheld = refl
changes_unheld p n (change ∷ changes) k unheld = by_change (added change) (λ b. changes_unheld (state_after_change p change) n changes k.1 b)
  where
    by_change : ((s : Serial) × (row : Row) × (change ≡ AddsUnit s row)) ⊎ ((s : Serial) (row : Row) → change ≡ AddsUnit s row → ⊥)
        → (IsUnheld n (state_after_change p change).rows → cooling_of (state_after p (change ∷ changes)) n ≡ cooling_of (state_after_change p change) n)
        → cooling_of (state_after p (change ∷ changes)) n ≡ cooling_of p n
    by_change (inl adds) later =
        let last : changes ≡ Owes (down.AssignOnu adds.1.onu adds.0) ∷ [] = (subst (λ (x : Change). KeepsOnuId p x changes) adds.2 k.0).1 in
        (λ i. cooling_of (state_after (state_after_change p (adds.2 i)) (last i)) n)
    by_change (inr none) later = let now = change_unheld p n change changes k.0 unheld none in later now.0 ∙ now.1

less_none : (k : ℕ) → k ≡ k - 0
less_none k = omega arith

-- a step shortens it by the frame that it is
start_cooling : (p : PortState) (e : Event) (n : ℕ) → cooling_of (state_at p e) n ≡ cooling_of p n - frames_of e
start_cooling p event.Frame n = get_or-map (λ (left : ℕ). left - 1) p.cooling n 0
start_cooling p (event.Burst at bytes) n = less_none (cooling_of p n)
start_cooling p (event.Command c) n = less_none (cooling_of p n)

step_cooling : (p q : PortState) (e : Entry) (n : ℕ) → IsStep p e q → IsUnheld n p.rows → cooling_of q n ≡ cooling_of p n - frames_of e.event
step_cooling p q e n step unheld =
    let t = step.1 in
    let start = state_at p e.event in
    ap (λ (o : StepResult). cooling_of o.state n) t.is
    ∙ changes_unheld start n (changes_with t.response t.picked) ((orderly_step e.purse_in p e.event t.response t.said).kept t.picked t.may)
    (subst (λ (rows : Rows). IsUnheld n rows) (sym (start_rows p e.event)) unheld)
    ∙ start_cooling p e.event n

-- ---- a run in which it is not given

module _ (n : ℕ) where
  abbrev IsKept : Entry → Type 0
  IsKept entry = entry.answer.reply ≢ Found n

  still_unheld : (p q : PortState) (e : Entry) → IsSound p → IsStep p e q → IsKept e → IsUnheld n p.rows → IsUnheld n q.rows
  still_unheld p q e sound step kept unheld s held = by_holder (step_holder p q e s n sound step held)
    where
      by_holder : (e.answer.reply ≡ Found n) ⊎ HasOnuId p.rows s n → ⊥
      by_holder (inl found) = kept found
      by_holder (inr before) = unheld s before

  run_unheld : (p q : PortState) (es : List Entry) → IsSound p → Run p es q → All IsKept es → IsUnheld n p.rows → IsUnheld n q.rows × (cooling_of q n ≡ cooling_of p n - frames_in es)
  run_unheld p q [] sound run kept unheld = (subst (λ (x : PortState). IsUnheld n x.rows) (sym run) unheld, ap (λ (x : PortState). cooling_of x n) run ∙ less_none (cooling_of p n))
  run_unheld p q (e ∷ es) sound run kept unheld =
      let now = still_unheld p run.0 e sound run.1 (All-head IsKept e es kept) unheld in
      let rest = run_unheld run.0 q es (sound_step e.purse_in p e.event (entry_outcome e run.0) sound run.1) run.2 (All-tail IsKept e es kept) now in
      let first = step_cooling p run.0 e n run.1 unheld in
      let frames : frames_in (e ∷ es) ≡ frames_of e.event + frames_in es = sum_by-cons (λ (x : Entry). frames_of x.event) e es in
      let later = rest.1 in
      (rest.0, omega arith)

-- ---- what frees it

-- the step that takes it from its unit leaves it unheld, with its whole quarantine
freed : (p q : PortState) (e : Entry) (s : Serial) (n : ℕ) → IsSound p → IsStep p e q → n < onu_ids → HasOnuId p.rows s n → (HasOnuId q.rows s n → ⊥) → IsUnheld n q.rows × (cooling_of q n ≡ p.config.quarantine)
freed p q e s n sound step low held gone = (λ t h. by_holder t h (step_holder p q e t n sound step h), cools)
  where
    by_holder : (t : Serial) → HasOnuId q.rows t n → (e.answer.reply ≡ Found n) ⊎ HasOnuId p.rows t n → ⊥
    by_holder t h (inl found) = (may_pick e.purse_in p e.event (entry_outcome e q) n n sound step found).0.unused s held.0 held.1 held.2
    by_holder t h (inr before) =
        let one : t ≡ s = sound.units.apart t s before.0 held.0 before.1 held.1 (inl (before.2 ∙ sym held.2)) in
        gone (subst (λ (x : Serial). HasOnuId q.rows x n) one h)

    least : HasOnuId q.rows s n ⊎ (p.config.quarantine ≤ cooling_of q n) → p.config.quarantine ≤ cooling_of q n
    least (inl h) = absurd (gone h)
    least (inr rests) = rests

    cools : cooling_of q n ≡ p.config.quarantine
    cools =
        let after = sound_step e.purse_in p e.event (entry_outcome e q) sound step in
        let most = subst (λ (c : PortConfig). cooling_of q n ≤ c.quarantine) (step_config p q e step) (after.barred.bounded n) in
        let some = least (step_frees n low p q e sound.barred.counted step s held) in
        omega arith

pub free_again : FreedOnuIdsAreFreeAgain
free_again c p mid q e es s n reached frees run kept =
    let sound = every_state c p reached in
    let after = sound_step e.purse_in p e.event (entry_outcome e mid) sound frees.step in
    let held = frees.held in
    let low : n < onu_ids = subst (λ (k : ℕ). k < onu_ids) held.2 (below held.0.onu (sound.units.each s held.0 held.1).fits.low) in
    let start = freed p mid e s n sound frees.step low held frees.freed in
    let rests = run_unheld n mid q es after run kept start.0 in
    let config : q.config ≡ c = config_after mid q es run ∙ step_config p mid e frees.step ∙ keeps_configuration c p reached in
    let cools : cooling_of q n ≡ c.quarantine - frames_in es =
    rests.1 ∙ ap (λ (k : ℕ). k - frames_in es) (start.1 ∙ ap (λ (x : PortConfig). x.quarantine) (keeps_configuration c p reached)) in (
      λ free. let warm = free.warm in (omega arith, subst (λ (x : PortConfig). rows_of q < x.max_units) config free.room),
      λ enough.
          let over = enough.0 in
          record {
            low = low;
            room = subst (λ (x : PortConfig). rows_of q < x.max_units) (sym config) enough.1;
            unused = λ t row has same. rests.0 t (row, has, same);
            warm = omega arith;
          },
    )
  where
    below : (k : ℕ) → k ≤ 253 → k < onu_ids
    below k h = omega arith
