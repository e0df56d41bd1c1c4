-- What a line of a trace tells that is counted (this profile's own rule).
use Rattle.std.specs.Prelude.{◌≡◌, ℕ, Bool, false, if◌then◌else◌, List, [], ◌∷◌, Option, None, Some, codes, drop, position}
use Rattle.std.specs.Char.{is_ascii_uppercase}
use Rattle.std.specs.Result.{result_ok}
use Rattle.std.specs.Str.{bytes_eq}
use Rattle.gp_ploam.specs.declared.check.Mask.{Mask}
use Rattle.gp_ploam.specs.declared.message.Serial.{Serial}
use Rattle.gp_ploam.specs.declared.message.Up.{Up}
use Rattle.gp_ploam.specs.Mask.{mask_value}
use Rattle.gp_alarms.specs.declared.alarm.Alarm.{Alarm}
use Rattle.gp_alarms.specs.declared.alarm.AlarmKind.{AlarmKind}
use Rattle.gp_alarms.specs.declared.alarm.AlarmKind.TheVariants.{Los, Loam, Loa, Suf, Df, Dg}
use Rattle.gp_machine.specs.declared.event.Event.{Event}
use Rattle.gp_machine.specs.declared.event.Event.TheVariants as events
use Rattle.gp_machine.specs.declared.refusal.Refusal.{Refusal}
use Rattle.gp_machine.specs.declared.refusal.Refusal.TheVariants.{Stray, Garbled, WrongWindow, NotAdmitted, NoId, NoLicence, Busy, NotActive, NotOperating, PendingAlloc, AllocFull, NotHeld, NoAlloc, AlreadySearching}
use Rattle.gp_machine.specs.Step.{Hears}
use Rattle.gp_lines.specs.Parts.{parts_of}
use Rattle.gp_lines.specs.Picks.{first_number}
use Rattle.gp_lines.specs.Reading.{serial_in}
use Rattle.gp_lines.specs.Trace.{SplitsLine}
use Rattle.gp_tally.specs.declared.told.Answered.{Answered}
use Rattle.gp_tally.specs.declared.told.Happened.{Happened}
use Rattle.gp_tally.specs.declared.told.Happened.TheVariants as happened
use Rattle.gp_tally.specs.declared.told.Told.{Told}

-- ---- of an event

-- what happened, with the message that a burst is read as under the mask
abbrev pub HappensAs : Mask → Event → Happened → Type 0
HappensAs mask events.Frame it = it ≡ happened.Frame
HappensAs mask (events.Burst at octets) it =
    (heard : Option Up) × Hears (mask_value mask) octets heard × (it ≡ happened.Burst heard)
HappensAs mask (events.Command command) it = it ≡ happened.Command

-- ---- of the text of an answer

-- the refusal with a number in its text
abbrev pub refusal_numbered : List ℕ → Option Refusal
refusal_numbered number =
    if bytes_eq number (codes "1") then Some Stray
    else if bytes_eq number (codes "2") then Some Garbled
    else if bytes_eq number (codes "3") then Some WrongWindow
    else if bytes_eq number (codes "4") then Some NotAdmitted
    else if bytes_eq number (codes "5") then Some NoId
    else if bytes_eq number (codes "6") then Some NoLicence
    else if bytes_eq number (codes "7") then Some Busy
    else if bytes_eq number (codes "8") then Some NotActive
    else if bytes_eq number (codes "9") then Some NotOperating
    else if bytes_eq number (codes "10") then Some PendingAlloc
    else if bytes_eq number (codes "11") then Some AllocFull
    else if bytes_eq number (codes "12") then Some NotHeld
    else if bytes_eq number (codes "13") then Some NoAlloc
    else if bytes_eq number (codes "14") then Some AlreadySearching
    else None

abbrev pub first_refusal : List (List ℕ) → Option Refusal
first_refusal [] = None
first_refusal (number ∷ parts) = refusal_numbered number

-- an answer that begins with `refused N`
abbrev pub refused_by : List (List ℕ) → Option Refusal
refused_by [] = None
refused_by (word ∷ parts) = if bytes_eq word (codes "refused") then first_refusal parts else None

-- with `found N`
abbrev pub onu_by : List (List ℕ) → Option ℕ
onu_by [] = None
onu_by (word ∷ parts) = if bytes_eq word (codes "found") then first_number parts else None

-- with `ranged`
abbrev pub ranged_by : List (List ℕ) → Bool
ranged_by [] = false
ranged_by (word ∷ parts) = bytes_eq word (codes "ranged")

-- the kind of alarm with this name
abbrev pub kind_named : List ℕ → Option AlarmKind
kind_named name =
    if bytes_eq name (codes "LOS") then Some Los
    else if bytes_eq name (codes "LOAM") then Some Loam
    else if bytes_eq name (codes "LOA") then Some Loa
    else if bytes_eq name (codes "SUF") then Some Suf
    else if bytes_eq name (codes "DF") then Some Df
    else if bytes_eq name (codes "DG") then Some Dg
    else None

-- the kind of alarm that a line tells: the word behind the first part that is `alarm`; this is not counted
abbrev pub kind_told : List (List ℕ) → Option AlarmKind
kind_told [] = None
kind_told (word ∷ []) = None
kind_told (word ∷ name ∷ parts) =
    if bytes_eq word (codes "alarm") then kind_named name else kind_told (name ∷ parts)

-- an alarm, where there are both a kind and a serial number
abbrev pub alarm_with : Option AlarmKind → Option Serial → Option Alarm
alarm_with (Some kind) (Some serial) = Some (record { kind = kind; serial = serial })
alarm_with _ _ = None

-- the name of a kind and a serial number
abbrev pub alarm_by : List (List ℕ) → Option Alarm
alarm_by (kind ∷ serial ∷ others) = alarm_with (kind_named kind) (result_ok (serial_in serial))
alarm_by _ = None

-- what stands from a place on
abbrev pub from_place : List ℕ → Option ℕ → List ℕ
from_place text None = []
from_place text (Some place) = drop place text

-- what stands from the first capital on: only alarms have any
unfoldable pub from_capital : List ℕ → List ℕ
from_capital text = from_place text (position is_ascii_uppercase text)

-- what the text of an answer says
unfoldable pub answered_in : List ℕ → Answered
answered_in text = record {
  refused = refused_by (parts_of text);
  found = onu_by (parts_of text);
  ranged = ranged_by (parts_of text);
  alarm = alarm_by (parts_of (from_capital text));
}

-- ---- of a line

-- a line without its line feed is one of this port, and tells this
pub record TellsLine (mask : Mask) (text : List ℕ) (port : ℕ) (told : Told) : Type 0 where
  pub number : ℕ
  pub event : Event
  pub answer : List ℕ
  pub split : SplitsLine text port number event answer
  pub happened : HappensAs mask event told.happened
  pub answered_is : told.answered ≡ answered_in answer
