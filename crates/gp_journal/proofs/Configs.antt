-- No step changes the configuration of a port.
use Rattle.std.proofs.Common.{◌≡◌, List, [], ◌∷◌, refl, ap, ◌∙◌}
use Rattle.gp_machine.specs.declared.entry.Entry.{Entry}
use Rattle.gp_machine.specs.declared.event.Event.{Event}
use Rattle.gp_machine.specs.declared.event.Event.TheVariants.{Frame, Burst, Command}
use Rattle.gp_machine.specs.State.{PortState}
use Rattle.gp_machine.specs.Changes.{Change, Owes, MarksSeen, CountsDown, ClosesWindow, OpensWindow, Enters, Wants, AddsUnit, SetsRow, RemovesUnit, Disables, Enables, EnablesAll, PopsUpAll, state_after_change, state_after, StepResult}
use Rattle.gp_machine.specs.Step.{state_at}
use Rattle.gp_machine.specs.Responses.{changes_with}
use Rattle.gp_machine.specs.Run.{IsStep, Run}

change_config : (port : PortState) (change : Change) → (state_after_change port change).config ≡ port.config
change_config port (Owes told) = refl
change_config port MarksSeen = refl
change_config port CountsDown = refl
change_config port ClosesWindow = refl
change_config port (OpensWindow grant) = refl
change_config port (Enters common) = refl
change_config port (Wants wanted) = refl
change_config port (AddsUnit serial row) = refl
change_config port (SetsRow serial row) = refl
change_config port (RemovesUnit serial onu) = refl
change_config port (Disables serial) = refl
change_config port (Enables serial) = refl
change_config port EnablesAll = refl
change_config port PopsUpAll = refl

changes_config : (port : PortState) (changes : List Change) → (state_after port changes).config ≡ port.config
changes_config port [] = refl
changes_config port (change ∷ changes) = changes_config (state_after_change port change) changes ∙ change_config port change

begun_config : (port : PortState) (event : Event) → (state_at port event).config ≡ port.config
begun_config port Frame = refl
begun_config port (Burst round_trip bytes) = refl
begun_config port (Command command) = refl

pub step_config : (port : PortState) (entry : Entry) (after : PortState) → IsStep port entry after → after.config ≡ port.config
step_config port entry after step =
    let s = step.1 in
    ap (λ (outcome : StepResult). outcome.state.config) s.is ∙ changes_config (state_at port entry.event) (changes_with s.response s.picked) ∙ begun_config port entry.event

pub run_config : (port : PortState) (entries : List Entry) (last : PortState) → Run port entries last → last.config ≡ port.config
run_config port [] last h = ap (λ (p : PortState). p.config) h
run_config port (entry ∷ entries) last h = run_config h.0 entries last h.2 ∙ step_config port entry h.0 h.1
