-- The text of a change, and the identifiers of variables (IEEE 1364, clause 18, "Value change dump files"; which
-- variables there are is this profile's own rule).
use Rattle.std.specs.Prelude.{ℕ, ◌+◌, ◌/◌, ◌%◌, Bool, true, false, List, [], ◌∷◌, ◌++◌, Option, None, Some, codes, decimal}
use Rattle.std.specs.List.{flat_map}
use Rattle.gp_alarms.specs.declared.alarm.AlarmKind.{AlarmKind}
use Rattle.gp_alarms.specs.declared.alarm.AlarmKind.TheVariants.{Los, Loam, Loa, Suf, Df, Dg}
use Rattle.gp_ploam.specs.declared.message.Serial.{Serial}
use Rattle.gp_dump.specs.declared.change.WindowKind.{WindowKind}
use Rattle.gp_dump.specs.declared.change.WindowKind.TheVariants.{Search, Range, Poll}
use Rattle.gp_dump.specs.declared.change.UnitState.{UnitState}
use Rattle.gp_dump.specs.declared.change.UnitState.TheVariants.{Removed, Asking, Ranging, Operating}
use Rattle.gp_dump.specs.declared.change.PortChange.{PortChange}
use Rattle.gp_dump.specs.declared.change.PortChange.TheVariants as port
use Rattle.gp_dump.specs.declared.change.UnitChange.{UnitChange}
use Rattle.gp_dump.specs.declared.change.UnitChange.TheVariants as unit
use Rattle.gp_dump.specs.declared.change.Change.{Change}
use Rattle.gp_dump.specs.declared.change.Change.TheVariants as change

-- ---- identifiers

-- the letter of a port: `a` for port 0, and so on
abbrev pub port_letter : ℕ → ℕ
port_letter port = 97 + port

-- a variable of a port: the letters of the port and of the variable
abbrev pub port_id : ℕ → ℕ → List ℕ
port_id port letter = port_letter port ∷ letter ∷ []

-- a variable of a unit: the same, and the number of its lane
abbrev pub unit_id : ℕ → ℕ → ℕ → List ℕ
unit_id port letter lane = port_letter port ∷ letter ∷ decimal lane

abbrev pub letter_of_port : PortChange → ℕ
letter_of_port (port.Frame _) = 102
letter_of_port (port.Sent _) = 115
letter_of_port (port.Grant _) = 103
letter_of_port (port.Asked _) = 97
letter_of_port (port.Window _) = 119
letter_of_port (port.Burst _) = 98
letter_of_port (port.Delay _) = 100
letter_of_port (port.Alarm _) = 108

abbrev pub letter_of_unit : UnitChange → ℕ
letter_of_unit (unit.Serial _) = 110
letter_of_unit (unit.State _) = 116
letter_of_unit (unit.Onu _) = 111
letter_of_unit (unit.Delay _) = 101

-- ---- values

-- the eight binary digits of an octet
abbrev pub octet_digits : ℕ → List ℕ
octet_digits octet =
    (48 + octet / 128 % 2) ∷ (48 + octet / 64 % 2) ∷ (48 + octet / 32 % 2) ∷ (48 + octet / 16 % 2)
    ∷ (48 + octet / 8 % 2) ∷ (48 + octet / 4 % 2) ∷ (48 + octet / 2 % 2) ∷ (48 + octet % 2) ∷ []

-- the four octets of a number, the greatest first
abbrev pub word_octets : ℕ → List ℕ
word_octets number =
    (number / 16777216) ∷ (number / 65536 % 256) ∷ (number / 256 % 256) ∷ (number % 256) ∷ []

abbrev pub window_number : WindowKind → ℕ
window_number Search = 1
window_number Range = 2
window_number Poll = 3

abbrev pub alarm_number : AlarmKind → ℕ
alarm_number Los = 1
alarm_number Loam = 2
alarm_number Loa = 3
alarm_number Suf = 4
alarm_number Df = 5
alarm_number Dg = 6

abbrev pub state_number : UnitState → ℕ
state_number Removed = 0
state_number Asking = 1
state_number Ranging = 2
state_number Operating = 3

-- a level
abbrev pub level_text : Bool → List ℕ
level_text true = codes "1"
level_text false = codes "0"

-- a vector of these octets
abbrev pub octets_text : List ℕ → List ℕ
octets_text octets = codes "b" ++ flat_map octet_digits octets ++ codes " "

-- nothing stands there
abbrev pub nothing_text : List ℕ
nothing_text = codes "bz "

abbrev pub code_text : Option (List ℕ) → List ℕ
code_text None = nothing_text
code_text (Some octets) = octets_text octets

abbrev pub octet_text : Option ℕ → List ℕ
octet_text None = nothing_text
octet_text (Some octet) = octets_text (octet ∷ [])

abbrev pub word_text : Option ℕ → List ℕ
word_text None = nothing_text
word_text (Some number) = octets_text (word_octets number)

abbrev pub window_text : Option WindowKind → List ℕ
window_text None = nothing_text
window_text (Some kind) = octets_text (window_number kind ∷ [])

abbrev pub alarm_text : Option AlarmKind → List ℕ
alarm_text None = nothing_text
alarm_text (Some kind) = octets_text (alarm_number kind ∷ [])

abbrev pub port_value : PortChange → List ℕ
port_value (port.Frame level) = level_text level
port_value (port.Sent code) = code_text code
port_value (port.Grant kind) = window_text kind
port_value (port.Asked onu) = octet_text onu
port_value (port.Window kind) = window_text kind
port_value (port.Burst code) = code_text code
port_value (port.Delay delay) = word_text delay
port_value (port.Alarm kind) = alarm_text kind

abbrev pub serial_octets : Serial → List ℕ
serial_octets serial = serial.0

abbrev pub unit_value : UnitChange → List ℕ
unit_value (unit.Serial serial) = octets_text (serial_octets serial)
unit_value (unit.State state) = octets_text (state_number state ∷ [])
unit_value (unit.Onu onu) = octet_text onu
unit_value (unit.Delay delay) = word_text delay

-- ---- a change

-- the value and the identifier, on a line of their own
abbrev pub change_text : Change → List ℕ
change_text (change.Port number what) = port_value what ++ port_id number (letter_of_port what) ++ codes "\n"
change_text (change.Unit number lane what) = unit_value what ++ unit_id number (letter_of_unit what) lane ++ codes "\n"
