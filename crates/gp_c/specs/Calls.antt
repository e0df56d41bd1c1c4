-- What a call from C answers, and what it leaves.
use Rattle.std.specs.Prelude.{ℕ, ◌≡◌, ◌++◌, nat_le, if◌then◌else◌, length, drop, List, Option, None, Some, Result, Ok, Err, OnOk, OnErr}
use Rattle.gp_ploam.specs.declared.message.Serial.{Serial}
use Rattle.gp_machine.specs.declared.config.PortConfig.{PortConfig}
use Rattle.gp_machine.specs.declared.event.Event.{Event}
use Rattle.gp_chassis.specs.declared.config.ChassisConfig.{ChassisConfig}
use Rattle.gp_chassis.specs.Limits.{IsWithin}
use Rattle.gp_chassis.specs.Core.{CoreState, core_opened}
use Rattle.gp_c.specs.declared.answer.AnswerNumbers.{AnswerNumbers}
use Rattle.gp_c.specs.declared.counts.PortCounts.{PortCounts}
use Rattle.gp_c.specs.declared.row.RowNumbers.{RowNumbers}
use Rattle.gp_c.specs.declared.fault.Fault.{Fault}
use Rattle.gp_c.specs.declared.fault.Fault.TheVariants.{NotOpen, IsOpen, Limit, Serials}
use Rattle.gp_c.specs.declared.settings.ChassisSettings.{ChassisSettings}
use Rattle.gp_c.specs.declared.settings.PortSettings.{PortSettings}
use Rattle.gp_c.specs.declared.settings.SerialNumber.{SerialNumber}
use Rattle.gp_c.specs.Faults.{fault_number}
use Rattle.gp_c.specs.Settings.{ports_of}
use Rattle.gp_c.specs.declared.kept.KeptEntry.{KeptEntry}
use Rattle.gp_c.specs.Entries.{entry_at}
use Rattle.gp_c.specs.Serves.{Answers, Cuts, StaysOpen, row_at, counts_at}

-- ---- what crosses

-- the status of a call: 0 where it is done
abbrev pub status_of : {A : Type 0} → Result A Fault → ℕ
status_of (Ok told) = 0
status_of (Err fault) = fault_number fault

-- what then stands where the caller wants what is told: where there is a fault, what stood there
abbrev pub written : {A : Type 0} → A → Result A Fault → A
written old (Ok told) = told
written old (Err fault) = old

-- ---- opening

-- what a chassis is opened with: what it has beside its ports, the ports, and the serial numbers that they admit
pub record Asked : Type 0 where
  pub settings : ChassisSettings
  pub ports : List PortSettings
  pub serials : List SerialNumber

abbrev pub asked_for : ChassisSettings → List PortSettings → List SerialNumber → Asked
asked_for settings ports serials = record { settings = settings; ports = ports; serials = serials }

-- no chassis may have these ports: a number is outside its limits, or a serial number is admitted twice
abbrev pub IsOutside : ChassisSettings → List PortConfig → Type 0
IsOutside settings configs =
    (config : ChassisConfig)
    → config.ports.items ≡ configs
    → config.licences ≡ settings.licences
    → config.journal_limit ≡ settings.journal_limit
    → IsWithin config
    → ⊥

-- a chassis with these ports was just opened
pub record IsOpened (asked : Asked) (after : Option CoreState) : Type 0 where
  pub configs : List PortConfig
  pub are : ports_of asked.ports asked.serials ≡ Some configs
  pub within : IsOutside asked.settings configs → ⊥
  pub core : after ≡ Some (core_opened configs asked.settings.licences asked.settings.journal_limit)

-- no chassis may be opened so
pub record IsBeyond (asked : Asked) : Type 0 where
  pub configs : List PortConfig
  pub are : ports_of asked.ports asked.serials ≡ Some configs
  pub outside : IsOutside asked.settings configs

-- a closed handle is open now, or nothing changed
abbrev pub OpensHandle : Asked → Option CoreState → Option CoreState → Result Unit Fault → Type 0
OpensHandle asked before after done =
    OnOk done ((before ≡ None) × IsOpened asked after)
    × OnErr done (after ≡ before)
    × ((core : CoreState) → before ≡ Some core → done ≡ Err IsOpen)
    × (done ≡ Err Serials → ports_of asked.ports asked.serials ≡ None)
    × (done ≡ Err Limit → IsBeyond asked)

-- what the caller is told of that
pub record TellsOpen (asked : Asked) (before after : Option CoreState) (status : ℕ) : Type 0 where
  pub done : Result Unit Fault
  pub opens : OpensHandle asked before after done
  pub status_is : status ≡ status_of done

-- ---- the other calls: a closed handle stays closed, and says so

-- what an event gave, or why it was not served
abbrev pub Answered : Type 0
Answered = Result AnswerNumbers Fault

-- an event was served at a port, or refused
abbrev pub ServesEvent : Option CoreState → ℕ → Event → Option CoreState → Answered → Type 0
ServesEvent before port event after answered =
    (before ≡ None → (after ≡ None) × (answered ≡ Err NotOpen))
    × ((core : CoreState) → before ≡ Some core
    → StaysOpen after (λ new. Answers core port event new answered))

-- what the caller is told of that
pub record TellsAnswer (before : Option CoreState) (port : ℕ) (event : Event) (after : Option CoreState) (status : ℕ)
    (old new : AnswerNumbers) : Type 0 where
  pub answered : Result AnswerNumbers Fault
  pub serves : ServesEvent before port event after answered
  pub status_is : status ≡ status_of answered
  pub written_is : new ≡ written old answered

-- what a port knows of a unit
abbrev pub shown_at : Option CoreState → ℕ → Serial → Result RowNumbers Fault
shown_at None port serial = Err NotOpen
shown_at (Some core) port serial = row_at core port serial

-- how many licences are free
abbrev pub free_at : Option CoreState → Result ℕ Fault
free_at None = Err NotOpen
free_at (Some core) = Ok core.free

-- what is counted of a port
abbrev pub tallied_at : Option CoreState → ℕ → Result PortCounts Fault
tallied_at None port = Err NotOpen
tallied_at (Some core) port = counts_at core port

-- an entry that a port's journal keeps
abbrev pub kept_at : Option CoreState → ℕ → ℕ → Result KeptEntry Fault
kept_at None port number = Err NotOpen
kept_at (Some core) port number = entry_at core port number

-- the journal of a port was cut, or nothing changed
abbrev pub CutsJournal : Option CoreState → ℕ → Option CoreState → Result Unit Fault → Type 0
CutsJournal before port after done =
    (before ≡ None → (after ≡ None) × (done ≡ Err NotOpen))
    × ((core : CoreState) → before ≡ Some core
    → StaysOpen after (λ new. Cuts core port new done))

-- what the caller is told of that
pub record TellsCut (before : Option CoreState) (port : ℕ) (after : Option CoreState) (status : ℕ) : Type 0 where
  pub done : Result Unit Fault
  pub cuts : CutsJournal before port after done
  pub status_is : status ≡ status_of done

-- whether there was a chassis to close
abbrev pub closed_at : Option CoreState → Result Unit Fault
closed_at None = Err NotOpen
closed_at (Some core) = Ok tt

-- ---- texts

-- what stands in a buffer where a text is wanted: the text and what stood behind it, or what stood there where it is
-- too short
abbrev pub text_in : List ℕ → List ℕ → List ℕ
text_in buffer text = if nat_le (length text) (length buffer) then text ++ drop (length text) buffer else buffer

-- what stands in it where there may be a fault instead
abbrev pub line_in : {E : Type 0} → List ℕ → Result (List ℕ) E → List ℕ
line_in buffer (Ok line) = text_in buffer line
line_in buffer (Err fault) = buffer

-- how many octets the caller is told that it has
abbrev pub length_in : {E : Type 0} → ℕ → Result (List ℕ) E → ℕ
length_in old (Ok line) = length line
length_in old (Err fault) = old
