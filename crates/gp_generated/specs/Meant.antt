-- What is meant by an event that is generated, as a script that was read says it (this profile's own rule).
use Rattle.std.specs.Prelude.{◌≡◌, ℕ, ◌<◌, ◌≤◌, pos, List, [], ◌∷◌, length, replicate}
use Rattle.hex.specs.Hex.{IsBytes}
use Rattle.toml.specs.Data.{Data, string, integer, boolean, Members, no_members, member}
use Rattle.gp_ploam.specs.declared.check.Mask.{Mask}
use Rattle.gp_ploam.specs.declared.message.Serial.{Serial}
use Rattle.gp_ploam.specs.declared.message.Up.{Up}
use Rattle.gp_ploam.specs.declared.message.Up.TheVariants as up
use Rattle.gp_ploam.specs.Mask.{mask_value}
use Rattle.gp_ploam.specs.Up.{code_of_up}
use Rattle.gp_machine.specs.declared.event.Command.{Command}
use Rattle.gp_machine.specs.declared.event.Command.TheVariants as commands
use Rattle.gp_script.specs.declared.script.ScriptEvent.{ScriptEvent}
use Rattle.gp_script.specs.declared.script.ScriptEvent.TheVariants as read
use Rattle.gp_generate.specs.declared.event.Event.{Event}
use Rattle.gp_generate.specs.declared.event.Event.TheVariants as events
use Rattle.gp_generate.specs.declared.event.Said.{Said}
use Rattle.gp_generate.specs.declared.event.Said.TheVariants as says
use Rattle.gp_generate.specs.Fields.{Field, number, text, truth}

-- the keys of a table with their values, as TOML has them
abbrev pub name_of : Field → List ℕ
name_of (number name value) = name
name_of (text name value) = name
name_of (truth name value) = name

abbrev pub value_of : Field → Data
value_of (number name value) = integer (pos value)
value_of (text name value) = string value
value_of (truth name value) = boolean value

abbrev pub members_of : List Field → Members
members_of [] = no_members
members_of (field ∷ fields) = member (name_of field) (value_of field) (members_of fields)

-- the message that is said
abbrev pub message_of : Said → Up
message_of (says.Serial serial onu) = up.SerialNumber onu serial 0 0
message_of (says.Gasp onu) = up.DyingGasp onu
message_of (says.Nothing onu) = up.NoMessage onu
message_of (says.Ack onu id) = up.Acknowledge onu id (replicate 9 0)

-- what is meant by an event, under the mask of its script
abbrev pub meant_by : Mask → Event → ScriptEvent
meant_by mask (events.Frames port count) = read.Frames port count
meant_by mask (events.Burst port at code) = read.Burst port at code
meant_by mask (events.Say port at said) = read.Burst port at (code_of_up (message_of said) (mask_value mask))
meant_by mask (events.Command port command) = read.Command port command
meant_by mask (events.Light unit lit) = read.Light unit lit

-- a serial number has eight octets
abbrev pub IsSerial : Serial → Type 0
IsSerial serial = (length serial.0 ≡ 8) × IsBytes serial.0

-- the numbers of what is said are within their ranges
abbrev pub IsSaidWithin : Said → Type 0
IsSaidWithin (says.Serial serial onu) = IsSerial serial × (onu ≤ 255)
IsSaidWithin (says.Gasp onu) = onu ≤ 255
IsSaidWithin (says.Nothing onu) = onu ≤ 255
IsSaidWithin (says.Ack onu id) = (onu ≤ 255) × (id ≤ 255)

-- those of a command
abbrev pub IsCommandWithin : Command → Type 0
IsCommandWithin commands.Search = Unit {0}
IsCommandWithin commands.EnableAll = Unit {0}
IsCommandWithin commands.PopupAll = Unit {0}
IsCommandWithin (commands.Alloc serial) = IsSerial serial
IsCommandWithin (commands.Dealloc serial alloc) = IsSerial serial × (alloc ≤ 4095)
IsCommandWithin (commands.Deactivate serial) = IsSerial serial
IsCommandWithin (commands.Disable serial) = IsSerial serial
IsCommandWithin (commands.Enable serial) = IsSerial serial
IsCommandWithin (commands.Popup serial) = IsSerial serial
IsCommandWithin (commands.Show serial) = IsSerial serial

-- those of an event, in a script of so many ports and units
abbrev pub IsWithin : ℕ → ℕ → Event → Type 0
IsWithin ports units (events.Frames port count) = (port < ports) × (1 ≤ count) × (count ≤ 1000000)
IsWithin ports units (events.Burst port at code) =
    (port < ports) × (at ≤ 4294967295) × (length code ≡ 13) × IsBytes code
IsWithin ports units (events.Say port at said) = (port < ports) × (at ≤ 4294967295) × IsSaidWithin said
IsWithin ports units (events.Command port command) = (port < ports) × IsCommandWithin command
IsWithin ports units (events.Light unit lit) = unit < units
