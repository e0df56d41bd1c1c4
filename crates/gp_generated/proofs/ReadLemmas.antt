-- Each form of an event is read as what is meant.
use Rattle.std.proofs.Common.{◌≡◌, ℕ, ◌<◌, ◌≤◌, pos, List, length, Ok, true, refl, ap, arith, rules, nat_lt, nat_le}
use Rattle.hex.specs.Hex.{IsBytes, encode_lower, lower_digits}
use Rattle.hex.proofs.HexLemmas.{IsDigits-lower_digits, decode_pairs-encode_with, length-encode_with}
use Rattle.gp_ploam.specs.declared.check.Mask.{Mask}
use Rattle.gp_ploam.specs.declared.message.Serial.{Serial}
use Rattle.gp_serial.specs.Spelling.{text_of_serial}
use Rattle.gp_serial.proofs.SpellingLemmas.{serial_of_text-Spells}
use Rattle.gp_serial.proofs.TextLemmas.{Spells-text_of_serial}
use Rattle.gp_machine.specs.declared.event.Command.{Command}
use Rattle.gp_machine.specs.declared.event.Command.TheVariants as commands
use Rattle.gp_script.specs.Command.{command_event, port_command, unit_command, dealloc_command}
use Rattle.gp_script.specs.Event.{event_of, frames_event, light_event, burst_event}
use Rattle.gp_script.specs.Say.{say_event, say_serial, say_gasp, say_none, say_ack, speaker_of}
use Rattle.gp_script.specs.Values.{in_range, place_in, octets_of, serial_of, serial_or_wanted}
use Rattle.gp_generate.specs.declared.event.Event.{Event}
use Rattle.gp_generate.specs.declared.event.Event.TheVariants as events
use Rattle.gp_generate.specs.declared.event.Said.{Said}
use Rattle.gp_generate.specs.declared.event.Said.TheVariants as says
use Rattle.gp_generate.specs.Events.{event_fields}
use Rattle.gp_generated.specs.Meant.{IsCommandWithin, IsSaidWithin, IsSerial, IsWithin, meant_by, members_of}

pub nat_lt-true : (a b : ℕ) → a < b → nat_lt a b ≡ true
nat_lt-true a b h = search (arith, rules)

pub nat_le-true : (a b : ℕ) → a ≤ b → nat_le a b ≡ true
nat_le-true a b h = search (arith, rules)

pub place_there : (count place : ℕ) → place < count → place_in count (pos place) ≡ Ok place
place_there count place h = rw (nat_lt-true place count h) refl

pub number_there : (low high n : ℕ) → low ≤ n → n ≤ high → in_range low high (pos n) ≡ Ok n
number_there low high n p q = rw (nat_le-true low n p) (rw (nat_le-true n high q) refl)

pub frames_read : (ports units : ℕ) (mask : Mask) (port count : ℕ) → port < ports → 1 ≤ count → count ≤ 1000000
    → event_of ports units mask (members_of (event_fields (events.Frames port count))) ≡ Ok (meant_by mask (events.Frames port count))
unfolding event_of frames_event
frames_read ports units mask port count p low high =
    rw (place_there ports port p) (rw (number_there 1 1000000 count low high) refl)

pub light_read : (ports units : ℕ) (mask : Mask) (unit : ℕ) (lit : _) → unit < units
    → event_of ports units mask (members_of (event_fields (events.Light unit lit))) ≡ Ok (meant_by mask (events.Light unit lit))
unfolding event_of light_event
light_read ports units mask unit lit p =
    let some : 0 < units = omega (arith, p) in
    rw (nat_lt-true 0 units some) (rw (place_there units unit p) refl)

pub serial_there : (serial : Serial) → IsSerial serial → serial_of (text_of_serial serial) ≡ Ok serial
serial_there serial is =
    ap serial_or_wanted (serial_of_text-Spells (text_of_serial serial) serial (Spells-text_of_serial serial.0 is.0 is.1))

pub octets_there : (code : List ℕ) → length code ≡ 13 → IsBytes code → octets_of 13 (encode_lower code) ≡ Ok code
octets_there code long bytes =
    let len : length (encode_lower code) ≡ 26 = let whole = length-encode_with lower_digits code in omega (arith, whole, long) in
    rw len (rw (decode_pairs-encode_with lower_digits IsDigits-lower_digits 0 code bytes) refl)

pub burst_read : (ports units : ℕ) (mask : Mask) (port at : ℕ) (code : List ℕ) → port < ports → at ≤ 4294967295 → length code ≡ 13 → IsBytes code
    → event_of ports units mask (members_of (event_fields (events.Burst port at code))) ≡ Ok (meant_by mask (events.Burst port at code))
unfolding event_of burst_event
burst_read ports units mask port at code p far long bytes =
    rw (place_there ports port p) (rw (number_there 0 4294967295 at (omega arith) far) (rw (octets_there code long bytes) refl))

pub serial_read : (ports units : ℕ) (mask : Mask) (port at : ℕ) (serial : Serial) (onu : ℕ) → port < ports → at ≤ 4294967295 → IsSerial serial → onu ≤ 255
    → event_of ports units mask (members_of (event_fields (events.Say port at (says.Serial serial onu)))) ≡ Ok (meant_by mask (events.Say port at (says.Serial serial onu)))
unfolding event_of say_event say_serial
serial_read ports units mask port at serial onu p far is few =
    rw (place_there ports port p) (rw (number_there 0 4294967295 at (omega arith) far) (rw (serial_there serial is) (rw (number_there 0 255 onu (omega arith) few) refl)))

pub gasp_read : (ports units : ℕ) (mask : Mask) (port at onu : ℕ) → port < ports → at ≤ 4294967295 → onu ≤ 255
    → event_of ports units mask (members_of (event_fields (events.Say port at (says.Gasp onu)))) ≡ Ok (meant_by mask (events.Say port at (says.Gasp onu)))
unfolding event_of say_event say_gasp speaker_of
gasp_read ports units mask port at onu p far few =
    rw (place_there ports port p) (rw (number_there 0 4294967295 at (omega arith) far) (rw (number_there 0 255 onu (omega arith) few) refl))

pub nothing_read : (ports units : ℕ) (mask : Mask) (port at onu : ℕ) → port < ports → at ≤ 4294967295 → onu ≤ 255
    → event_of ports units mask (members_of (event_fields (events.Say port at (says.Nothing onu)))) ≡ Ok (meant_by mask (events.Say port at (says.Nothing onu)))
unfolding event_of say_event say_none speaker_of
nothing_read ports units mask port at onu p far few =
    rw (place_there ports port p) (rw (number_there 0 4294967295 at (omega arith) far) (rw (number_there 0 255 onu (omega arith) few) refl))

pub ack_read : (ports units : ℕ) (mask : Mask) (port at onu id : ℕ) → port < ports → at ≤ 4294967295 → onu ≤ 255 → id ≤ 255
    → event_of ports units mask (members_of (event_fields (events.Say port at (says.Ack onu id)))) ≡ Ok (meant_by mask (events.Say port at (says.Ack onu id)))
unfolding event_of say_event say_ack
ack_read ports units mask port at onu id p far few other =
    rw (place_there ports port p) (rw (number_there 0 4294967295 at (omega arith) far) (rw (number_there 0 255 onu (omega arith) few) (rw (number_there 0 255 id (omega arith) other) refl)))

pub said_read : (ports units : ℕ) (mask : Mask) (port at : ℕ) (said : Said) → port < ports → at ≤ 4294967295 → IsSaidWithin said
    → event_of ports units mask (members_of (event_fields (events.Say port at said))) ≡ Ok (meant_by mask (events.Say port at said))
said_read ports units mask port at (says.Serial serial onu) p far is = serial_read ports units mask port at serial onu p far is.0 is.1
said_read ports units mask port at (says.Gasp onu) p far is = gasp_read ports units mask port at onu p far is
said_read ports units mask port at (says.Nothing onu) p far is = nothing_read ports units mask port at onu p far is
said_read ports units mask port at (says.Ack onu id) p far is = ack_read ports units mask port at onu id p far is.0 is.1

pub command_read : (ports units : ℕ) (mask : Mask) (port : ℕ) (command : Command) → port < ports → IsCommandWithin command
    → event_of ports units mask (members_of (event_fields (events.Command port command))) ≡ Ok (meant_by mask (events.Command port command))
unfolding event_of command_event port_command unit_command dealloc_command
command_read ports units mask port commands.Search p is = rw (place_there ports port p) refl
command_read ports units mask port commands.EnableAll p is = rw (place_there ports port p) refl
command_read ports units mask port commands.PopupAll p is = rw (place_there ports port p) refl
command_read ports units mask port (commands.Alloc serial) p is = rw (place_there ports port p) (rw (serial_there serial is) refl)
command_read ports units mask port (commands.Dealloc serial alloc) p is =
    rw (place_there ports port p) (rw (serial_there serial is.0) (rw (number_there 0 4095 alloc (omega arith) is.1) refl))
command_read ports units mask port (commands.Deactivate serial) p is = rw (place_there ports port p) (rw (serial_there serial is) refl)
command_read ports units mask port (commands.Disable serial) p is = rw (place_there ports port p) (rw (serial_there serial is) refl)
command_read ports units mask port (commands.Enable serial) p is = rw (place_there ports port p) (rw (serial_there serial is) refl)
command_read ports units mask port (commands.Popup serial) p is = rw (place_there ports port p) (rw (serial_there serial is) refl)
command_read ports units mask port (commands.Show serial) p is = rw (place_there ports port p) (rw (serial_there serial is) refl)

-- each event
pub event_read : (ports units : ℕ) (mask : Mask) (event : Event) → IsWithin ports units event
    → event_of ports units mask (members_of (event_fields event)) ≡ Ok (meant_by mask event)
event_read ports units mask (events.Frames port count) is = frames_read ports units mask port count is.0 is.1 is.2
event_read ports units mask (events.Burst port at code) is = burst_read ports units mask port at code is.0 is.1 is.2 is.3
event_read ports units mask (events.Say port at said) is = said_read ports units mask port at said is.0 is.1 is.2
event_read ports units mask (events.Command port command) is = command_read ports units mask port command is.0 is.1
event_read ports units mask (events.Light unit lit) is = light_read ports units mask unit lit is
