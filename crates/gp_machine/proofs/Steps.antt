-- Each step does what may be done: it keeps a port sound, and its licences.
use Rattle.std.proofs.Common.{◌≡◌, ℕ, ◌+◌, List, [], ◌∷◌, refl, sym, ap, subst, ◌∙◌, arith}
use Rattle.gp_unit.specs.declared.row.Row.{Row}
use Rattle.gp_unit.specs.Rows.{row_popped_up}
use Rattle.gp_machine.specs.declared.event.Event.{Event}
use Rattle.gp_machine.specs.declared.event.Event.TheVariants as event
use Rattle.gp_machine.specs.State.{PortState, rows_of}
use Rattle.gp_machine.specs.Sound.{IsSound}
use Rattle.gp_machine.specs.Changes.{Change, StepResult, Owes, MarksSeen, CountsDown, ClosesWindow, OpensWindow, Enters, Wants, AddsUnit, SetsRow, RemovesUnit, Disables, Enables, EnablesAll, PopsUpAll, state_after_change, purse_after_change, state_after, purse_after}
use Rattle.gp_machine.specs.Responses.{Response, changes_with}
use Rattle.gp_machine.specs.Frame.{state_begun}
use Rattle.gp_machine.specs.Step.{IsResponse, state_at}
use Rattle.gp_machine.specs.OneStep.{KeepsSound, KeepsLicences}
use Rattle.gp_machine.proofs.Units.{len-known, len-new, len-fewer, len-some, len-mapped}
use Rattle.gp_machine.proofs.SoundChanges.{MayMakeChange, MayMakeChanges, sound_changes}
use Rattle.gp_machine.proofs.SoundFrames.{sound_begun}
use Rattle.gp_machine.proofs.Proper.{IsHeard, IsObeyed, IsProper, proper_burst, proper_command}
use Rattle.gp_machine.proofs.ProperFrames.{proper_frame}

-- ---- what is said in an event is proper

pub sound_start : (p : PortState) (e : Event) → IsSound p → IsSound (state_at p e)
sound_start p event.Frame h = sound_begun p h
sound_start p (event.Burst at bytes) h = h
sound_start p (event.Command c) h = h

-- what a refusal changes
abbrev pub refusing_in : Event → List Change
refusing_in event.Frame = []
refusing_in (event.Burst at bytes) = MarksSeen ∷ []
refusing_in (event.Command c) = []

pub proper : (u : ℕ) (p : PortState) (e : Event) (d : Response) → IsSound p → IsResponse u p e d → IsProper u (state_at p e) (refusing_in e) d
proper u p event.Frame d h said = subst (λ (x : Response). IsObeyed u (state_begun p) x) (sym said.4) (proper_frame u p said.0 said.1 (sound_begun p h) said.2 said.3)
proper u p (event.Burst at bytes) d h said = subst (λ (x : Response). IsHeard u p x) (sym said.2) (proper_burst u p h at said.0)
proper u p (event.Command c) d h said = subst (λ (x : Response). IsObeyed u p x) (sym said) (proper_command u p h c)

-- ---- soundness

pub sound_step : KeepsSound
sound_step u p e o h step =
    let s = step.1 in
    subst (λ (x : StepResult). IsSound x.state) (sym s.is) (sound_changes u (state_at p e) (changes_with s.response s.picked) (sound_start p e h) ((proper u p e s.response h s.said).changes s.picked s.may))

-- ---- licences

-- as many licences in the purse and with units as before
abbrev Keeps : ℕ → PortState → ℕ → PortState → Type 0
Keeps u p v q = v + rows_of q ≡ u + rows_of p

change_keeps : (u : ℕ) (p : PortState) (change : Change) → MayMakeChange u p change → Keeps u p (purse_after_change u change) (state_after_change p change)
change_keeps u p (AddsUnit s row) may = let more = len-new p.rows s row may.unknown in let some = may.licensed in omega arith
change_keeps u p (SetsRow s row) may = ap (λ (k : ℕ). u + k) (len-known p.rows s may.old row may.has)
change_keeps u p (RemovesUnit s n) may = let fewer = len-fewer p.rows s may.0 may.1 in let some = len-some p.rows s may.0 may.1 in omega arith
change_keeps u p PopsUpAll may = ap (λ (k : ℕ). u + k) (len-mapped (λ (row : Row). row_popped_up row row.phase) p.rows)
change_keeps u p (Owes m) may = refl
change_keeps u p MarksSeen may = refl
change_keeps u p CountsDown may = refl
change_keeps u p ClosesWindow may = refl
change_keeps u p (OpensWindow g) may = refl
change_keeps u p (Enters c) may = refl
change_keeps u p (Wants w) may = refl
change_keeps u p (Disables s) may = refl
change_keeps u p (Enables s) may = refl
change_keeps u p EnablesAll may = refl

changes_keep : (u : ℕ) (p : PortState) (changes : List Change) → MayMakeChanges u p changes → Keeps u p (purse_after u changes) (state_after p changes)
changes_keep u p [] may = refl
changes_keep u p (change ∷ changes) may = changes_keep (purse_after_change u change) (state_after_change p change) changes may.1 ∙ change_keeps u p change may.0

-- the beginning of an event touches no row
start_rows : (p : PortState) (e : Event) → rows_of (state_at p e) ≡ rows_of p
start_rows p event.Frame = refl
start_rows p (event.Burst at bytes) = refl
start_rows p (event.Command c) = refl

pub step_keeps : KeepsLicences
step_keeps u p e o h step =
    let s = step.1 in
    let kept = changes_keep u (state_at p e) (changes_with s.response s.picked) ((proper u p e s.response h s.said).changes s.picked s.may) in
    subst (λ (x : StepResult). x.purse + rows_of x.state ≡ u + rows_of p) (sym s.is) (kept ∙ ap (λ (k : ℕ). u + k) (start_rows p e))
