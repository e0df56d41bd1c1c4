-- The event tables with `command` (this profile's own rule). Each function is given how many ports there are.
use Rattle.std.specs.Prelude.{ℕ, List, [], ◌∷◌, Option, None, Some, Result, Ok, if◌then◌else◌, codes, ok_or}
use Rattle.std.specs.Str.{bytes_eq}
use Rattle.toml.specs.Data.{Members}
use Rattle.gp_ploam.specs.declared.message.Serial.{Serial}
use Rattle.gp_pools.specs.Limits.{last_alloc_id}
use Rattle.gp_machine.specs.declared.event.Command.{Command}
use Rattle.gp_machine.specs.declared.event.Command.TheVariants as commands
use Rattle.gp_script.specs.declared.script.ScriptEvent.{ScriptEvent}
use Rattle.gp_script.specs.declared.script.ScriptEvent.TheVariants as events
use Rattle.gp_script.specs.declared.command.CommandWord.{CommandWord}
use Rattle.gp_script.specs.declared.command.CommandWord.TheVariants.{OfPort, OfUnit, Dealloc}
use Rattle.gp_script.specs.declared.command.UnitCommand.{UnitCommand}
use Rattle.gp_script.specs.declared.command.UnitCommand.TheVariants.{Alloc, Deactivate, Disable, Enable, Popup, Show}
use Rattle.gp_script.specs.declared.place.Key.TheVariants as key
use Rattle.gp_script.specs.declared.place.Spot.TheVariants as spots
use Rattle.gp_script.specs.declared.place.Wanted.TheVariants as wanted
use Rattle.gp_script.specs.Fault.{◌>>=◌}
use Rattle.gp_script.specs.Mistake.{TableMistakeView, unmet, at_key}
use Rattle.gp_script.specs.Keys.{has_only, needed_number, needed_text}
use Rattle.gp_script.specs.Values.{in_range, place_in, serial_of}

-- what a word asks for
abbrev pub command_word : List ℕ → Option CommandWord
command_word word =
    if bytes_eq word (codes "search") then Some (OfPort commands.Search)
    else if bytes_eq word (codes "enable-all") then Some (OfPort commands.EnableAll)
    else if bytes_eq word (codes "popup-all") then Some (OfPort commands.PopupAll)
    else if bytes_eq word (codes "alloc") then Some (OfUnit Alloc)
    else if bytes_eq word (codes "deactivate") then Some (OfUnit Deactivate)
    else if bytes_eq word (codes "disable") then Some (OfUnit Disable)
    else if bytes_eq word (codes "enable") then Some (OfUnit Enable)
    else if bytes_eq word (codes "popup") then Some (OfUnit Popup)
    else if bytes_eq word (codes "show") then Some (OfUnit Show)
    else if bytes_eq word (codes "dealloc") then Some Dealloc
    else None

-- the command to the unit with this serial number
abbrev pub command_to : Serial → UnitCommand → Command
command_to serial Alloc = commands.Alloc serial
command_to serial Deactivate = commands.Deactivate serial
command_to serial Disable = commands.Disable serial
command_to serial Enable = commands.Enable serial
command_to serial Popup = commands.Popup serial
command_to serial Show = commands.Show serial

-- a command that names no unit
unfoldable pub port_command : ℕ → Command → Members → Result ScriptEvent TableMistakeView
port_command ports command members = do
  _ ← has_only (key.Port ∷ key.Command ∷ []) members
  port ← needed_number key.Port members
  port ← at_key key.Port (place_in ports port)
  Ok (events.Command port command)

-- a command to a unit
unfoldable pub unit_command : ℕ → UnitCommand → Members → Result ScriptEvent TableMistakeView
unit_command ports command members = do
  _ ← has_only (key.Port ∷ key.Command ∷ key.Serial ∷ []) members
  port ← needed_number key.Port members
  serial ← needed_text key.Serial members
  port ← at_key key.Port (place_in ports port)
  serial ← at_key key.Serial (serial_of serial)
  Ok (events.Command port (command_to serial command))

-- a unit is to give an Alloc-ID back
unfoldable pub dealloc_command : ℕ → Members → Result ScriptEvent TableMistakeView
dealloc_command ports members = do
  _ ← has_only (key.Port ∷ key.Command ∷ key.Serial ∷ key.Alloc ∷ []) members
  port ← needed_number key.Port members
  serial ← needed_text key.Serial members
  alloc ← needed_number key.Alloc members
  port ← at_key key.Port (place_in ports port)
  serial ← at_key key.Serial (serial_of serial)
  alloc ← at_key key.Alloc (in_range 0 last_alloc_id alloc)
  Ok (events.Command port (commands.Dealloc serial alloc))

-- the command that the word asks for
abbrev pub asked_event : ℕ → CommandWord → Members → Result ScriptEvent TableMistakeView
asked_event ports (OfPort command) members = port_command ports command members
asked_event ports (OfUnit command) members = unit_command ports command members
asked_event ports Dealloc members = dealloc_command ports members

-- what the operator asks is told by its word
unfoldable pub command_event : ℕ → Members → Result ScriptEvent TableMistakeView
command_event ports members = do
  text ← needed_text key.Command members
  word ← ok_or (command_word text) (unmet (spots.Key key.Command) wanted.Word)
  asked_event ports word members
