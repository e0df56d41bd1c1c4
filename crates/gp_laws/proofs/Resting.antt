-- An ONU-ID that was freed is not given to a new unit before its quarantine is over.
use Rattle.std.proofs.Common.{◌≡◌, ℕ, ◌+◌, ◌<◌, ◌≤◌, ◌==◌, length, List, [], ◌∷◌, ◌⊎◌, inl, inr, sym, subst, ◌∙◌, arith, get_or, set}
use Rattle.std.specs.Prelude.{◌-◌}
use Rattle.std.proofs.lemmas.Bool.{cases_Bool, eqb-true, eqb-false}
use Rattle.std.proofs.lemmas.List.{length-map, length-set, get_or-set_same, get_or-set_other}
use Rattle.std.proofs.lemmas.List.Sums.{sum_by-cons}
use Rattle.std.proofs.Math.ListN.{get_or-map}
use Rattle.gp_ploam.specs.declared.message.Serial.{Serial}
use Rattle.gp_ploam.specs.Serials.{same_serial}
use Rattle.gp_unit.specs.declared.row.Row.{Row}
use Rattle.gp_unit.specs.Rows.{row_popped_up}
use Rattle.gp_unit.proofs.Kept.{popped_onu}
use Rattle.gp_machine.specs.declared.config.PortConfig.{PortConfig}
use Rattle.gp_machine.specs.declared.entry.Entry.{Entry}
use Rattle.gp_machine.specs.declared.event.Event.{Event}
use Rattle.gp_machine.specs.declared.event.Event.TheVariants as event
use Rattle.gp_ploam.specs.OnuIds.{onu_ids}
use Rattle.gp_machine.specs.State.{PortState, Rows, cooling_of}
use Rattle.gp_machine.specs.Changes.{Change, StepResult, AddsUnit, SetsRow, RemovesUnit, PopsUpAll, state_after_change, state_after}
use Rattle.gp_machine.specs.Responses.{changes_with}
use Rattle.gp_machine.specs.Step.{state_at}
use Rattle.gp_machine.specs.Run.{IsStep, Run, entry_outcome}
use Rattle.gp_machine.proofs.Units.{has_others, stays, differs, has_changed}
use Rattle.gp_machine.proofs.Steps.{sound_step}
use Rattle.gp_laws.specs.Numbers.{HasOnuId}
use Rattle.gp_laws.specs.Quarantine.{frames_of, frames_in, FreedOnuIdsRest}
use Rattle.gp_laws.proofs.WholeRuns.{change_config, start_config, step_config, sound_after, every_state, keeps_configuration}
use Rattle.gp_laws.proofs.AnyFree.{may_pick}
use Rattle.gp_laws.proofs.Orderly.{KeepsOnuId, KeepOnuIds}
use Rattle.gp_laws.proofs.OrderlyFrames.{orderly_step}
use Rattle.gp_laws.proofs.Losing.{has_same, set_keeps, start_rows}

-- ---- the counts of cooling frames

-- a port has a count for each ONU-ID
abbrev pub IsCounted : PortState → Type 0
IsCounted p = length p.cooling ≡ onu_ids

change_counted : (p : PortState) (change : Change) → IsCounted p → IsCounted (state_after_change p change)
change_counted p (RemovesUnit t m) h = length-set p.cooling m p.config.quarantine ∙ h
change_counted p change h = h

changes_counted : (p : PortState) (changes : List Change) → IsCounted p → IsCounted (state_after p changes)
changes_counted p [] h = h
changes_counted p (change ∷ changes) h = changes_counted (state_after_change p change) changes (change_counted p change h)

start_counted : (p : PortState) (e : Event) → IsCounted p → IsCounted (state_at p e)
start_counted p event.Frame h = length-map p.cooling (λ (left : ℕ). left - 1) ∙ h
start_counted p (event.Burst at bytes) h = h
start_counted p (event.Command c) h = h

-- this ONU-ID, if there is one, is one of those that there are
module _ (n : ℕ) (low : n < onu_ids) where
  -- a removal begins the quarantine of its ONU-ID
  set_cooling : (p : PortState) (m : ℕ) → IsCounted p → n ≡ m → cooling_of (state_after_change p (RemovesUnit (record { 0 = [] }) m)) n ≡ p.config.quarantine
  set_cooling p m counted is =
      let below = low in
      subst (λ (k : ℕ). get_or (set p.cooling k p.config.quarantine) n 0 ≡ p.config.quarantine) is (get_or-set_same p.cooling n p.config.quarantine 0 (omega arith))

  -- no change shortens it
  change_cools : (p : PortState) (change : Change) (k : ℕ) → IsCounted p → k ≤ p.config.quarantine → k ≤ cooling_of p n → k ≤ cooling_of (state_after_change p change) n
  change_cools p (RemovesUnit t m) k counted most h =
      elim (cases_Bool (n == m)) [
        | inl b ↦ subst (λ (x : ℕ). k ≤ x) (sym (set_cooling p m counted (eqb-true n m b))) most
        | inr b ↦ subst (λ (x : ℕ). k ≤ x) (sym (get_or-set_other p.cooling m n p.config.quarantine 0 (eqb-false n m b))) h
      ]
  change_cools p change k counted most h = h

  changes_cool : (p : PortState) (changes : List Change) (k : ℕ) → IsCounted p → k ≤ p.config.quarantine → k ≤ cooling_of p n → k ≤ cooling_of (state_after p changes) n
  changes_cool p [] k counted most h = h
  changes_cool p (change ∷ changes) k counted most h =
      changes_cool (state_after_change p change) changes k (change_counted p change counted) (subst (λ (c : PortConfig). k ≤ c.quarantine) (sym (change_config p change)) most)
      (change_cools p change k counted most h)

  unchanged : (a b : ℕ) → a ≤ b → a - 0 ≤ b
  unchanged a b h = omega arith

  -- a frame shortens it by one
  start_cools : (p : PortState) (e : Event) (k : ℕ) → k ≤ cooling_of p n → k - frames_of e ≤ cooling_of (state_at p e) n
  start_cools p event.Frame k h = subst (λ (x : ℕ). k - 1 ≤ x) (sym (get_or-map (λ (left : ℕ). left - 1) p.cooling n 0)) (less k (cooling_of p n) h)
    where
      less : (a b : ℕ) → a ≤ b → a - 1 ≤ b - 1
      less a b h = omega arith
  start_cools p (event.Burst at bytes) k h = unchanged k (cooling_of p n) h
  start_cools p (event.Command c) k h = unchanged k (cooling_of p n) h

  step_counted : (p q : PortState) (e : Entry) → IsCounted p → IsStep p e q → IsCounted q
  step_counted p q e counted step =
      let s = step.1 in
      subst (λ (x : StepResult). IsCounted x.state) (sym s.is) (changes_counted (state_at p e.event) (changes_with s.response s.picked) (start_counted p e.event counted))

  step_cools : (p q : PortState) (e : Entry) (k : ℕ) → IsCounted p → k ≤ p.config.quarantine → k ≤ cooling_of p n → IsStep p e q → k - frames_of e.event ≤ cooling_of q n
  step_cools p q e k counted most h step =
      let s = step.1 in
      let start = state_at p e.event in
      let same : start.config ≡ p.config = start_config p e.event in
      let still : k - frames_of e.event ≤ start.config.quarantine = subst (λ (c : PortConfig). k - frames_of e.event ≤ c.quarantine) (sym same) (omega arith) in
      subst (λ (x : StepResult). k - frames_of e.event ≤ cooling_of x.state n) (sym s.is)
      (changes_cool start (changes_with s.response s.picked) (k - frames_of e.event) (start_counted p e.event counted) still (start_cools p e.event k h))

  run_cools : (p q : PortState) (es : List Entry) (k : ℕ) → IsCounted p → k ≤ p.config.quarantine → k ≤ cooling_of p n → Run p es q → k ≤ cooling_of q n + frames_in es
  run_cools p q [] k counted most h run = subst (λ (x : PortState). k ≤ cooling_of x n + 0) (sym run) (omega arith)
  run_cools p q (e ∷ es) k counted most h run =
      let now = step_cools p run.0 e k counted most h run.1 in
      let still : k - frames_of e.event ≤ run.0.config.quarantine = subst (λ (c : PortConfig). k - frames_of e.event ≤ c.quarantine) (sym (step_config p run.0 e run.1)) (omega arith) in
      let later : k - frames_of e.event ≤ cooling_of q n + frames_in es = run_cools run.0 q es (k - frames_of e.event) (step_counted p run.0 e counted run.1) still now run.2 in
      let frames : frames_in (e ∷ es) ≡ frames_of e.event + frames_in es = sum_by-cons (λ (x : Entry). frames_of x.event) e es in
      omega arith

  -- ---- what frees an ONU-ID

  -- a unit keeps its ONU-ID, or the quarantine of the ONU-ID begins
  abbrev pub RestsOrIsHeld : PortState → Serial → ℕ → Type 0
  RestsOrIsHeld q s k = HasOnuId q.rows s n ⊎ (k ≤ cooling_of q n)

  change_frees : (p : PortState) (change : Change) (later : List Change) → IsCounted p → KeepsOnuId p change later → (s : Serial) → HasOnuId p.rows s n → RestsOrIsHeld (state_after_change p change) s p.config.quarantine
  change_frees p (AddsUnit t row) later counted none s h = inl (h.0, has_others p.rows t row s h.0 (differs p.rows t s h.0 none.0 h.1) h.1, h.2)
  change_frees p (SetsRow t new) later counted k s h = inl (set_keeps p.rows t new k.0 s n k.1 k.2 h)
  change_frees p (RemovesUnit t m) later counted k s h =
      elim (cases_Bool (same_serial s t)) [
        | inl b ↦
            let is = set_cooling p m counted (sym (has_same p.rows s t n k.0 b k.1 h) ∙ k.2) in
            inr (subst (λ (x : ℕ). p.config.quarantine ≤ x) (sym is) (omega arith))
        | inr b ↦ inl (h.0, stays p.rows t s h.0 b h.1, h.2)
      ]
  change_frees p PopsUpAll later counted k s h =
      inl (row_popped_up h.0 h.0.phase, has_changed (λ (row : Row). row_popped_up row row.phase) p.rows s h.0 h.1, popped_onu h.0 h.0.phase ∙ h.2)
  change_frees p change later counted k s h = inl h

  changes_free : (p : PortState) (changes : List Change) → IsCounted p → KeepOnuIds p changes → (s : Serial) → HasOnuId p.rows s n → RestsOrIsHeld (state_after p changes) s p.config.quarantine
  changes_free p [] counted k s h = inl h
  changes_free p (change ∷ changes) counted k s h =
      by_change (change_frees p change changes counted k.0 s h)
      (λ still. subst (λ (c : PortConfig). RestsOrIsHeld (state_after p (change ∷ changes)) s c.quarantine) (change_config p change) (changes_free (state_after_change p change) changes (change_counted p change counted) k.1 s still))
    where
      by_change : RestsOrIsHeld (state_after_change p change) s p.config.quarantine → (HasOnuId (state_after_change p change).rows s n → RestsOrIsHeld (state_after p (change ∷ changes)) s p.config.quarantine)
          → RestsOrIsHeld (state_after p (change ∷ changes)) s p.config.quarantine
      by_change (inl still) later = later still
      by_change (inr rests) later =
          inr (changes_cool (state_after_change p change) changes p.config.quarantine (change_counted p change counted) (subst (λ (c : PortConfig). p.config.quarantine ≤ c.quarantine) (sym (change_config p change)) (omega arith)) rests)

  pub step_frees : (p q : PortState) (e : Entry) → IsCounted p → IsStep p e q → (s : Serial) → HasOnuId p.rows s n → RestsOrIsHeld q s p.config.quarantine
  step_frees p q e counted step s h =
      let t = step.1 in
      let start = state_at p e.event in
      subst (λ (x : StepResult). RestsOrIsHeld x.state s p.config.quarantine) (sym t.is)
      (subst (λ (c : PortConfig). RestsOrIsHeld (state_after start (changes_with t.response t.picked)) s c.quarantine) (start_config p e.event)
      (changes_free start (changes_with t.response t.picked) (start_counted p e.event counted) ((orderly_step e.purse_in p e.event t.response t.said).kept t.picked t.may) s
      (subst (λ (rows : Rows). HasOnuId rows s n) (sym (start_rows p e.event)) h)))

pub freed_rest : FreedOnuIdsRest
freed_rest c p mid q after freeing giving es s n reached frees run step found =
    let sound = every_state c p reached in
    let counted = sound.barred.counted in
    let sound_mid = sound_step freeing.purse_in p freeing.event (entry_outcome freeing mid) sound frees.step in
    let sound_last = sound_after mid q es sound_mid run in
    let free = (may_pick giving.purse_in q giving.event (entry_outcome giving after) n n sound_last step found).0 in
    let warm = free.warm in
    let same : mid.config ≡ p.config = step_config p mid freeing frees.step in
    let rests = rested (step_frees n free.low p mid freeing counted frees.step s frees.held) frees.freed in
    let spent = run_cools n free.low mid q es p.config.quarantine sound_mid.barred.counted (subst (λ (x : PortConfig). p.config.quarantine ≤ x.quarantine) (sym same) (omega arith)) rests run in
    subst (λ (x : PortConfig). x.quarantine ≤ frames_in es) (keeps_configuration c p reached) (omega arith)
  where
    rested : HasOnuId mid.rows s n ⊎ (p.config.quarantine ≤ cooling_of mid n) → (HasOnuId mid.rows s n → ⊥) → p.config.quarantine ≤ cooling_of mid n
    rested (inl held) freed = absurd (freed held)
    rested (inr rests) freed = rests
