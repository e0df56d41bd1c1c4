-- What a step puts behind all that was sent and is still owed, and with which message a unit loses its ONU-ID
-- (G.984.3, clause 10; that each removal owes one of two messages is this profile's own rule).
use Rattle.std.specs.Prelude.{◌≡◌, ℕ, List, ◌∷◌, ◌++◌, ◌⊎◌, All, Contains}
use Rattle.std.specs.Option.{option_to_list}
use Rattle.gp_ploam.specs.declared.message.Serial.{Serial}
use Rattle.gp_ploam.specs.declared.message.Down.{Down}
use Rattle.gp_ploam.specs.declared.message.Down.TheVariants.{AssignOnu, Deactivate, DisableSerial}
use Rattle.gp_machine.specs.declared.config.PortConfig.{PortConfig}
use Rattle.gp_machine.specs.declared.entry.Entry.{Entry}
use Rattle.gp_machine.specs.declared.event.Event.{Event}
use Rattle.gp_machine.specs.State.{PortState, opening_of}
use Rattle.gp_machine.specs.Changes.{StepResult}
use Rattle.gp_machine.specs.Step.{Step}
use Rattle.gp_machine.specs.Run.{Run}
use Rattle.gp_machine.specs.Messages.{sent_in, three_times}
use Rattle.gp_laws.specs.Numbers.{HasOnuId}

-- the messages take this ONU-ID from the unit with this serial number: one is Deactivate_ONU-ID of the one, or
-- Disable_Serial_Number of the other
abbrev pub TakesOnuId : List Down → Serial → ℕ → Type 0
TakesOnuId messages serial onu = Contains messages (Deactivate onu) ⊎ Contains messages (DisableSerial serial)

-- the message is no Assign_ONU-ID, or it tells a unit the ONU-ID that the unit has
abbrev pub TellsItsOnuId : PortState → Down → Type 0
TellsItsOnuId port (AssignOnu onu serial) = HasOnuId port.rows serial onu
TellsItsOnuId port _ = Unit {0}

-- the step to this outcome owes these messages
pub record Adds (port : PortState) (outcome : StepResult) (messages : List Down) : Type 0 where
  -- all copies of each stand behind what was owed, the copy that the step sends included
  pub behind : option_to_list outcome.answer.sent ++ outcome.state.owed ≡ port.owed ++ three_times messages
  -- each Assign_ONU-ID among them tells a unit the ONU-ID that it has after the step
  pub told : All (TellsItsOnuId outcome.state) messages
  -- each unit keeps its ONU-ID, or one of them takes it
  pub kept : (serial : Serial) (onu : ℕ) → HasOnuId port.rows serial onu
      → HasOnuId outcome.state.rows serial onu ⊎ TakesOnuId messages serial onu

-- each step owes such messages
abbrev pub EachStepAdds : Type 0
EachStepAdds =
    (licences : ℕ) (port : PortState) (event : Event) (outcome : StepResult) → Step licences port event outcome
    → (messages : List Down) × Adds port outcome messages

-- in every run from an opening, of the copies sent and after them those owed: where an ONU-ID is assigned to a serial
-- number, the unit with that serial number has it, or a message after that takes it
abbrev pub AssignedStayOrAreTold : Type 0
AssignedStayOrAreTold =
    (config : PortConfig) (last : PortState) (entries : List Entry) (earlier later : List Down) (serial : Serial)
    (onu : ℕ)
    → Run (opening_of config) entries last
    → sent_in entries ++ last.owed ≡ earlier ++ AssignOnu onu serial ∷ later
    → HasOnuId last.rows serial onu ⊎ TakesOnuId later serial onu
