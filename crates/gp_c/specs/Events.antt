-- The numbers of events (this library's own rule; include/wagpisud.h has their names).
use Rattle.std.specs.Prelude.{ℕ, [], ◌∷◌, replicate, slice_index_or, Option, None, Some, option_map}
use Rattle.gp_ploam.specs.declared.message.Serial.{Serial}
use Rattle.gp_machine.specs.declared.event.Event.{Event}
use Rattle.gp_machine.specs.declared.event.Event.TheVariants.{Frame, Burst, Command as Commanded}
use Rattle.gp_machine.specs.declared.event.Command.{Command}
use Rattle.gp_machine.specs.declared.event.Command.TheVariants.{Search, Alloc, Dealloc, Deactivate, Disable, Enable, EnableAll, Popup, PopupAll, Show}
use Rattle.gp_c.specs.declared.event.EventNumbers.{EventNumbers}
use Rattle.gp_c.specs.Commands.{command_of}

-- a frame, of which all numbers are 0
abbrev pub frame_numbers : EventNumbers
frame_numbers = record { at = 0; alloc = 0; kind = 0; command = 0; serial = replicate 8 0; octets = replicate 13 0 }

-- a command of this kind
abbrev pub numbered : ℕ → Serial → ℕ → EventNumbers
numbered command serial alloc =
    record frame_numbers { kind = 2; command = command; serial = serial.0; alloc = alloc }

-- no serial number
abbrev pub nobody : Serial
nobody = record { 0 = replicate 8 0 }

-- a command
abbrev pub command_numbers : Command → EventNumbers
command_numbers Search = numbered 0 nobody 0
command_numbers (Alloc serial) = numbered 1 serial 0
command_numbers (Dealloc serial alloc) = numbered 2 serial alloc
command_numbers (Deactivate serial) = numbered 3 serial 0
command_numbers (Disable serial) = numbered 4 serial 0
command_numbers (Enable serial) = numbered 5 serial 0
command_numbers EnableAll = numbered 6 nobody 0
command_numbers (Popup serial) = numbered 7 serial 0
command_numbers PopupAll = numbered 8 nobody 0
command_numbers (Show serial) = numbered 9 serial 0

-- an event
abbrev pub event_numbers : Event → EventNumbers
event_numbers Frame = frame_numbers
event_numbers (Burst at bytes) = record frame_numbers { kind = 1; at = at; octets = bytes }
event_numbers (Commanded command) = command_numbers command

-- the command of these numbers, if there is one
abbrev pub commanded : EventNumbers → Option Event
commanded numbers =
    option_map
    (λ (command : Command). Commanded command)
    (command_of numbers.command (record { 0 = numbers.serial }) numbers.alloc)

-- the event of these numbers, if there is one
abbrev pub event_of : EventNumbers → Option Event
event_of numbers =
    slice_index_or
    (Some Frame ∷ Some (Burst numbers.at numbers.octets) ∷ commanded numbers ∷ [])
    numbers.kind
    None
