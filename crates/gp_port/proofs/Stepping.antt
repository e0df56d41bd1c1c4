-- What is done in a frame, a burst or a command is a step.
use Rattle.std.proofs.Common.{◌≡◌, ℕ, Option, None, Some, List, [], length, true, false, if◌then◌else◌, is_none, ◌&&◌, ◌⊎◌, inl, inr, refl, sym, ap, ◌∙◌, subst}
use Rattle.std.proofs.lemmas.Bool.{cases_Bool}
use Rattle.std.specs.Prelude.{Result, Ok, Err, IfOk, IsErrOf}
use Rattle.std.specs.Result.{result_ok}
use Rattle.gp_ploam.specs.declared.message.PloamFault.{PloamFault}
use Rattle.gp_ploam.specs.declared.message.PloamFault.TheVariants as fault
use Rattle.gp_ploam.specs.Row.{HasRightCheck}
use Rattle.gp_ploam.specs.Up.{ReadsUp}
use Rattle.gp_volley.specs.Copies.{first_of}
use Rattle.gp_ranging.specs.Window.{WindowState}
use Rattle.gp_ploam.specs.Mask.{mask_value}
use Rattle.gp_ploam.specs.declared.message.Up.{Up}
use Rattle.gp_machine.specs.declared.event.Command.{Command}
use Rattle.gp_machine.specs.declared.event.Event.TheVariants as event
use Rattle.gp_machine.specs.State.{PortState, IsLeastRanging, IsNextPoll}
use Rattle.gp_machine.specs.Changes.{StepResult, owed_by}
use Rattle.gp_machine.specs.Sound.{IsSound}
use Rattle.gp_machine.specs.Closes.{ticks}
use Rattle.gp_machine.specs.Responses.{Response, MayPick, changes_with, step_result_with}
use Rattle.gp_machine.specs.Burst.{burst_response}
use Rattle.gp_machine.specs.Commands.{command_response}
use Rattle.gp_machine.specs.Frame.{decided_response, decision_after, frame_response, opened_response, state_begun}
use Rattle.gp_machine.specs.Step.{Hears, Step}
use Rattle.gp_machine.proofs.FreeNumbers.{least_ranging, next_poll}
use Rattle.gp_port.specs.Parts.{AreCandidates, decides}

pub command_step : (u : ℕ) (p : PortState) (c : Command) (o : StepResult) (n : ℕ) → MayPick p (command_response p c) n → o ≡ step_result_with u p None (command_response p c) n → Step u p (event.Command c) o
command_step u p c o n may is = (owed_by (changes_with (command_response p c) n), record { response = command_response p c; picked = n; said = refl; may = may; is = is; owes = refl })

pub frame_step : (u : ℕ) (p : PortState) (ranging next : Option ℕ) (o : StepResult) → IsLeastRanging p.rows ranging → IsNextPoll p.rows p.polled next
    → MayPick (state_begun p) (frame_response p ranging next) 0 → o ≡ step_result_with u (state_begun p) (first_of p.owed) (frame_response p ranging next) 0 → Step u p event.Frame o
frame_step u p ranging next o least poll may is =
    let response = frame_response p ranging next in
    (owed_by (changes_with response 0), record { response = response; picked = 0; said = (ranging, next, least, poll, refl); may = may; is = is; owes = refl })

-- where a frame does not decide, it is the same whichever units are ranging and polled next
undecided : (p : PortState) (ranging next least polled : Option ℕ) (window : Option WindowState) → (is_none window && is_none (first_of p.owed)) ≡ false
    → opened_response p ranging next window ≡ opened_response p least polled window
undecided p ranging next least polled (Some window) isnt = refl
undecided p ranging next least polled None isnt =
    ap (λ b. if b then decided_response p (decision_after p ranging next) else ticks None []) isnt
    ∙ sym (ap (λ b. if b then decided_response p (decision_after p least polled) else ticks None []) isnt)

pub frame_step_with : (u : ℕ) (p : PortState) (ranging next : Option ℕ) (o : StepResult) → IsSound p → AreCandidates p (ranging, next)
    → MayPick (state_begun p) (frame_response p ranging next) 0 → o ≡ step_result_with u (state_begun p) (first_of p.owed) (frame_response p ranging next) 0 → Step u p event.Frame o
frame_step_with u p ranging next o sound found may is = by_case (cases_Bool (decides p))
  where
    by_case : (decides p ≡ true) ⊎ (decides p ≡ false) → Step u p event.Frame o
    by_case (inl is_so) = let both = found is_so in frame_step u p ranging next o both.0 both.1 may is
    by_case (inr isnt) =
        let least = least_ranging p sound in
        let polled = next_poll p sound in
        let same : frame_response p ranging next ≡ frame_response p least.0 polled.0 = undecided p ranging next least.0 polled.0 p.window isnt in
        frame_step u p least.0 polled.0 o least.1 polled.1
        (subst (λ (r : Response). MayPick (state_begun p) r 0) same may)
        (subst (λ (r : Response). o ≡ step_result_with u (state_begun p) (first_of p.owed) r 0) same is)

pub burst_step : (u : ℕ) (p : PortState) (at : ℕ) (bytes : List ℕ) (heard : Option Up) (o : StepResult) (n : ℕ) → Hears (mask_value p.config.mask) bytes heard
    → MayPick p (burst_response u p at heard) n → o ≡ step_result_with u p None (burst_response u p at heard) n → Step u p (event.Burst at bytes) o
burst_step u p at bytes heard o n hears may is =
    let response = burst_response u p at heard in
    (owed_by (changes_with response n), record { response = response; picked = n; said = (heard, hears, refl); may = may; is = is; owes = refl })

-- what a burst is read as is heard
pub hears : (mask : ℕ) (bytes : List ℕ) (read : Result Up PloamFault) (heard : Option Up) → heard ≡ result_ok read → length bytes ≡ 13 → IfOk read (ReadsUp bytes mask)
    → (IsErrOf read fault.Length → length bytes ≡ 13 → ⊥) → (IsErrOf read fault.Crc → HasRightCheck bytes mask → ⊥) → Hears mask bytes heard
hears mask bytes (Ok message) heard is thirteen reads short wrong = subst (λ (o : Option Up). Hears mask bytes o) (sym is) reads
hears mask bytes (Err fault.Length) heard is thirteen reads short wrong = absurd (short refl thirteen)
hears mask bytes (Err fault.Crc) heard is thirteen reads short wrong = subst (λ (o : Option Up). Hears mask bytes o) (sym is) (wrong refl)
