-- For how long an ONU-ID rests that was freed (this profile's own rule).
use Rattle.std.specs.Prelude.{◌≡◌, ◌≢◌, ◌↔◌, ℕ, ◌<◌, ◌≤◌, List, All}
use Rattle.std.specs.List.{sum_by}
use Rattle.gp_ploam.specs.declared.message.Serial.{Serial}
use Rattle.gp_machine.specs.declared.config.PortConfig.{PortConfig}
use Rattle.gp_machine.specs.declared.entry.Entry.{Entry}
use Rattle.gp_machine.specs.declared.event.Event.{Event}
use Rattle.gp_machine.specs.declared.event.Event.TheVariants.{Frame, Burst, Command}
use Rattle.gp_machine.specs.declared.reply.Reply.TheVariants.{Found}
use Rattle.gp_machine.specs.State.{PortState, IsFree, rows_of}
use Rattle.gp_machine.specs.Run.{IsStep, Run, IsReached}
use Rattle.gp_laws.specs.Numbers.{HasOnuId}

-- how many frames begin with an event
abbrev pub frames_of : Event → ℕ
frames_of Frame = 1
frames_of (Burst round_trip bytes) = 0
frames_of (Command command) = 0

-- how many frames begin with the events of these entries
abbrev pub frames_in : List Entry → ℕ
frames_in entries = sum_by (λ entry. frames_of entry.event) entries

-- the step frees this ONU-ID: the unit with this serial number holds it before the step, and not after it
pub record Frees (port : PortState) (entry : Entry) (after : PortState) (serial : Serial) (onu : ℕ) : Type 0 where
  pub step : IsStep port entry after
  pub held : HasOnuId port.rows serial onu
  pub freed : HasOnuId after.rows serial onu → ⊥

-- where a step of a run from an opening frees an ONU-ID, and a later step gives it to a new unit, as many frames as the
-- quarantine has begin between the two, at the least
abbrev pub FreedOnuIdsRest : Type 0
FreedOnuIdsRest =
    (config : PortConfig) (port mid last after : PortState) (freeing giving : Entry) (entries : List Entry)
    (serial : Serial) (onu : ℕ)
    → IsReached config port
    → Frees port freeing mid serial onu
    → Run mid entries last
    → IsStep last giving after
    → giving.answer.reply ≡ Found onu
    → config.quarantine ≤ frames_in entries

-- where a step of a run from an opening frees an ONU-ID, and no later step gives it to a new unit: it is free again
-- once as many frames have begun as the quarantine has, and not before, as long as there is room for a further unit.
-- The step that frees it is not counted, also where it is itself a frame
abbrev pub FreedOnuIdsAreFreeAgain : Type 0
FreedOnuIdsAreFreeAgain =
    (config : PortConfig) (port mid last : PortState) (freeing : Entry) (entries : List Entry)
    → (serial : Serial) (onu : ℕ)
    → IsReached config port
    → Frees port freeing mid serial onu
    → Run mid entries last
    → All (λ entry. entry.answer.reply ≢ Found onu) entries
    → IsFree last onu ↔ ((config.quarantine ≤ frames_in entries) × (rows_of last < config.max_units))
