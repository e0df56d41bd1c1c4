-- Every event has a step.
use Rattle.std.proofs.Common.{◌≡◌, ℕ, ◌<◌, eqb, List, length, Option, None, Some, inl, inr, refl, take}
use Rattle.std.specs.Prelude.{All, slice_index}
use Rattle.std.proofs.lemmas.Bool.{cases_Bool, eqb-true, eqb-false}
use Rattle.gp_ploam.specs.declared.message.Up.{Up}
use Rattle.gp_ploam.specs.Crc.{crc_of}
use Rattle.gp_ploam.specs.Mask.{mask_value}
use Rattle.gp_machine.specs.declared.event.Event.{Event}
use Rattle.gp_machine.specs.declared.event.Event.TheVariants as event
use Rattle.gp_machine.specs.State.{PortState}
use Rattle.gp_machine.specs.Sound.{IsSound}
use Rattle.gp_machine.specs.Responses.{Response, step_result_with}
use Rattle.gp_machine.specs.Frame.{frame_response}
use Rattle.gp_machine.specs.Burst.{burst_response}
use Rattle.gp_machine.specs.Commands.{command_response}
use Rattle.gp_machine.specs.Step.{Hears, IsResponse, state_at, sent_at}
use Rattle.gp_laws.specs.Steps.{IsTypedEvent, EveryEventHasStep}
use Rattle.gp_machine.proofs.Steps.{proper}
use Rattle.gp_laws.proofs.AnyFree.{stepped}
use Rattle.gp_machine.proofs.FreeNumbers.{least_ranging, next_poll}
use Rattle.gp_laws.proofs.Readings.{reads_some}

-- thirteen octets are read as a message, or their check octet is wrong
some_hearing : (mask : ℕ) (bytes : List ℕ) → length bytes ≡ 13 → All (λ octet. octet < 256) bytes → (heard : Option Up) × Hears mask bytes heard
some_hearing mask bytes long octets =
    elim (cases_Bool (eqb (slice_index bytes 12) (crc_of (take 12 bytes) mask))) [
      | inl right ↦ let read = reads_some bytes mask long octets (eqb-true _ _ right) in (Some read.0, read.1)
      | inr wrong ↦ (None, eqb-false _ _ wrong)
    ]

some_response : (u : ℕ) (p : PortState) (e : Event) → IsSound p → IsTypedEvent e → (d : Response) × IsResponse u p e d
some_response u p event.Frame h typed =
    let ranging = least_ranging p h in
    let next = next_poll p h in
    (frame_response p ranging.0 next.0, (ranging.0, next.0, ranging.1, next.1, refl))
some_response u p (event.Burst at bytes) h typed =
    let heard = some_hearing (mask_value p.config.mask) bytes typed.0 typed.1 in (burst_response u p at heard.0, (heard.0, heard.1, refl))
some_response u p (event.Command c) h typed = (command_response p c, refl)

pub has_step : EveryEventHasStep
has_step u p e h typed =
    let said = some_response u p e h typed in
    let pick = (proper u p e said.0 h said.1).some in
    (step_result_with u (state_at p e) (sent_at p e) said.0 pick.0, stepped u p e said.0 pick.0 said.1 pick.1)
