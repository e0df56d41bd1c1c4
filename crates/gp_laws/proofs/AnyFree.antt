-- Any free number may be picked.
use Rattle.std.proofs.Common.{◌≡◌, ℕ, List, Option, refl, sym, ap, subst, ◌∙◌}
use Rattle.gp_ploam.specs.declared.message.Serial.{Serial}
use Rattle.gp_ploam.specs.declared.message.Down.{Down}
use Rattle.gp_unit.specs.declared.row.Row.{Row}
use Rattle.gp_machine.specs.declared.event.Event.{Event}
use Rattle.gp_machine.specs.declared.event.Event.TheVariants as event
use Rattle.gp_machine.specs.declared.reply.Reply.{Reply}
use Rattle.gp_machine.specs.declared.reply.Reply.TheVariants.{Ticked, Found, Allocated}
use Rattle.gp_machine.specs.State.{PortState, IsFree, IsFreeAlloc}
use Rattle.gp_machine.specs.Sound.{IsSound}
use Rattle.gp_machine.specs.Changes.{Change, StepResult, owed_by}
use Rattle.gp_machine.specs.Responses.{Response, Responds, GivesOnu, GivesAlloc, MayPick, step_result_with, answer_with, changes_with}
use Rattle.gp_machine.specs.Step.{IsResponse, Step, state_at, sent_at}
use Rattle.gp_machine.proofs.Proper.{IsHonest}
use Rattle.gp_machine.proofs.Steps.{proper, refusing_in}
use Rattle.gp_machine.proofs.Determined.{frame_ticks}
use Rattle.gp_laws.specs.Steps.{MayPickAnyFree, MayPickAnyFreeAlloc}

-- a step that does what the tables say, with this number
pub stepped : (u : ℕ) (p : PortState) (e : Event) (d : Response) (n : ℕ) → IsResponse u p e d → MayPick (state_at p e) d n → Step u p e (step_result_with u (state_at p e) (sent_at p e) d n)
stepped u p e d n said may = (owed_by (changes_with d n), record { response = d; picked = n; said = said; may = may; is = refl; owes = refl })

-- what a response is that hands out an ONU-ID
finds : (refusing : List Change) (sent : Option Down) (d : Response) (n onu : ℕ) → IsHonest refusing d → (answer_with sent d n).reply ≡ Found onu → (s : Serial) × (d ≡ GivesOnu s) × (n ≡ onu)
finds refusing sent (Responds reply grant alarm changes) n onu honest is = absurd (subst (λ (r : Reply). IsHonest refusing (Responds r grant alarm changes)) is honest)
finds refusing sent (GivesOnu s) n onu honest is = (s, refl, one is)
  where
    one : Found n ≡ Found onu → n ≡ onu
    one e = cc
finds refusing sent (GivesAlloc s row) n onu honest is = absurd (other is)
  where
    other : Allocated n ≡ Found onu → ⊥
    other e = cc

allocates : (refusing : List Change) (sent : Option Down) (d : Response) (n alloc : ℕ) → IsHonest refusing d → (answer_with sent d n).reply ≡ Allocated alloc → (s : Serial) × (row : Row) × (d ≡ GivesAlloc s row) × (n ≡ alloc)
allocates refusing sent (Responds reply grant alarm changes) n alloc honest is = absurd (subst (λ (r : Reply). IsHonest refusing (Responds r grant alarm changes)) is honest)
allocates refusing sent (GivesAlloc s row) n alloc honest is = (s, row, refl, one is)
  where
    one : Allocated n ≡ Allocated alloc → n ≡ alloc
    one e = cc
allocates refusing sent (GivesOnu s) n alloc honest is = absurd (other is)
  where
    other : Found n ≡ Allocated alloc → ⊥
    other e = cc

-- ---- any free number

module _ (u : ℕ) (p : PortState) (e : Event) (at : state_at p e ≡ p) (o : StepResult) (h : IsSound p) (step : Step u p e o) where
  replied : (r : Reply) → o.answer.reply ≡ r → (answer_with (sent_at p e) step.1.response step.1.picked).reply ≡ r
  replied r is = ap (λ (y : StepResult). y.answer.reply) (sym step.1.is) ∙ is

  found_any : (onu other : ℕ) → o.answer.reply ≡ Found onu → IsFree p onu × (IsFree p other → (another : StepResult) × Step u p e another × (another.answer.reply ≡ Found other))
  found_any onu other is = by_response (finds (refusing_in e) (sent_at p e) step.1.response step.1.picked onu (proper u p e step.1.response h step.1.said).honest (replied (Found onu) is))
    where
      by_response : (t : Serial) × (step.1.response ≡ GivesOnu t) × (step.1.picked ≡ onu) → IsFree p onu × (IsFree p other → (another : StepResult) × Step u p e another × (another.answer.reply ≡ Found other))
      by_response k =
          let may : MayPick (state_at p e) (GivesOnu k.0) step.1.picked = subst (λ (y : Response). MayPick (state_at p e) y step.1.picked) k.1 step.1.may in
          let said : IsResponse u p e (GivesOnu k.0) = subst (λ (y : Response). IsResponse u p e y) k.1 step.1.said in (
            subst (λ (m : ℕ). IsFree p m) k.2 (subst (λ (q : PortState). IsFree q step.1.picked) at may),
            λ free.
                (step_result_with u (state_at p e) (sent_at p e) (GivesOnu k.0) other, stepped u p e (GivesOnu k.0) other said (subst (λ (q : PortState). IsFree q other) (sym at) free), refl),
          )

  allocated_any : (alloc other : ℕ) → o.answer.reply ≡ Allocated alloc → IsFreeAlloc p alloc × (IsFreeAlloc p other → (another : StepResult) × Step u p e another × (another.answer.reply ≡ Allocated other))
  allocated_any alloc other is = by_response (allocates (refusing_in e) (sent_at p e) step.1.response step.1.picked alloc (proper u p e step.1.response h step.1.said).honest (replied (Allocated alloc) is))
    where
      by_response : (t : Serial) × (row : Row) × (step.1.response ≡ GivesAlloc t row) × (step.1.picked ≡ alloc)
          → IsFreeAlloc p alloc × (IsFreeAlloc p other → (another : StepResult) × Step u p e another × (another.answer.reply ≡ Allocated other))
      by_response k =
          let may : MayPick (state_at p e) (GivesAlloc k.0 k.1) step.1.picked = subst (λ (y : Response). MayPick (state_at p e) y step.1.picked) k.2 step.1.may in
          let said : IsResponse u p e (GivesAlloc k.0 k.1) = subst (λ (y : Response). IsResponse u p e y) k.2 step.1.said in (
            subst (λ (m : ℕ). IsFreeAlloc p m) k.3 (subst (λ (q : PortState). IsFreeAlloc q step.1.picked) at may),
            λ free. (
              step_result_with u (state_at p e) (sent_at p e) (GivesAlloc k.0 k.1) other,
              stepped u p e (GivesAlloc k.0 k.1) other said (subst (λ (q : PortState). IsFreeAlloc q other) (sym at) free),
              refl,
            ),
          )

not_found : (r : Reply) (onu : ℕ) → r ≡ Ticked → r ≡ Found onu → ⊥
not_found r onu h k = cc

not_allocated : (r : Reply) (alloc : ℕ) → r ≡ Ticked → r ≡ Allocated alloc → ⊥
not_allocated r alloc h k = cc

pub may_pick : MayPickAnyFree
may_pick u p event.Frame o onu other h step is = absurd (not_found o.answer.reply onu (frame_ticks u p o step) is)
may_pick u p (event.Burst at bytes) o onu other h step is = found_any u p (event.Burst at bytes) refl o h step onu other is
may_pick u p (event.Command c) o onu other h step is = found_any u p (event.Command c) refl o h step onu other is

pub may_pick_alloc : MayPickAnyFreeAlloc
may_pick_alloc u p event.Frame o alloc other h step is = absurd (not_allocated o.answer.reply alloc (frame_ticks u p o step) is)
may_pick_alloc u p (event.Burst at bytes) o alloc other h step is = allocated_any u p (event.Burst at bytes) refl o h step alloc other is
may_pick_alloc u p (event.Command c) o alloc other h step is = allocated_any u p (event.Command c) refl o h step alloc other is
