-- The tables under `event` (this profile's own rule). Each function is given how many ports, or units, there are.
use Rattle.std.specs.Prelude.{ℕ, ◌+◌, List, [], ◌∷◌, Result, Ok, Err, if◌then◌else◌, is_some, nat_lt}
use Rattle.toml.specs.Data.{table, Items, no_items, item, Members, get_member}
use Rattle.gp_ploam.specs.declared.check.Mask.{Mask}
use Rattle.gp_script.specs.declared.script.ScriptEvent.{ScriptEvent}
use Rattle.gp_script.specs.declared.script.ScriptEvent.TheVariants.{Frames, Burst, Light}
use Rattle.gp_script.specs.declared.place.Key.{Key}
use Rattle.gp_script.specs.declared.place.Key.TheVariants as key
use Rattle.gp_script.specs.declared.place.TablePlace.TheVariants as places
use Rattle.gp_script.specs.declared.place.Spot.TheVariants as spots
use Rattle.gp_script.specs.declared.place.Wanted.TheVariants as wanted
use Rattle.gp_script.specs.Fault.{◌>>=◌, needs}
use Rattle.gp_script.specs.Mistake.{TableMistakeView, unmet, MistakeView, key_name, at_key, in_table, no_table}
use Rattle.gp_script.specs.Keys.{has_only, needed_bool, needed_number, needed_text}
use Rattle.gp_script.specs.Values.{delay_in, in_range, octets_of, place_in}
use Rattle.gp_script.specs.Say.{say_event}
use Rattle.gp_script.specs.Command.{command_event}

-- so many frames at a port
unfoldable pub frames_event : ℕ → Members → Result ScriptEvent TableMistakeView
frames_event ports members = do
  _ ← has_only (key.Port ∷ key.Frames ∷ []) members
  port ← needed_number key.Port members
  frames ← needed_number key.Frames members
  port ← at_key key.Port (place_in ports port)
  count ← at_key key.Frames (in_range 1 1000000 frames)
  Ok (Frames port count)

-- thirteen octets that arrive at a port
unfoldable pub burst_event : ℕ → Members → Result ScriptEvent TableMistakeView
burst_event ports members = do
  _ ← has_only (key.Port ∷ key.At ∷ key.Burst ∷ []) members
  port ← needed_number key.Port members
  at ← needed_number key.At members
  burst ← needed_text key.Burst members
  port ← at_key key.Port (place_in ports port)
  at ← at_key key.At (delay_in at)
  bytes ← at_key key.Burst (octets_of 13 burst)
  Ok (Burst port at bytes)

-- the light of a unit comes or goes, in a script that has units
unfoldable pub light_event : ℕ → Members → Result ScriptEvent TableMistakeView
light_event units members = do
  _ ← needs (unmet (spots.Key key.Light) wanted.Units) (nat_lt 0 units)
  _ ← has_only (key.Unit ∷ key.Light ∷ []) members
  unit ← needed_number key.Unit members
  lit ← needed_bool key.Light members
  unit ← at_key key.Unit (place_in units unit)
  Ok (Light unit lit)

-- the keys of an event table, each of which some form of an event has
abbrev pub event_keys : List Key
event_keys =
    key.Port ∷ key.Frames ∷ key.Burst ∷ key.Say ∷ key.Command ∷ key.Light ∷ key.At ∷ key.Serial ∷ key.Onu ∷ key.Id
    ∷ key.Alloc ∷ key.Unit ∷ []

-- an event table of no form: it has a key that no event has, which may be a form's that is written in another way, or
-- else none of the keys of the forms
unfoldable pub no_form : Members → Result ScriptEvent TableMistakeView
no_form members = do
  _ ← has_only event_keys members
  Err (unmet spots.Table wanted.Form)

-- an event table; its form is told by the key that this form alone has
unfoldable pub event_of : ℕ → ℕ → Mask → Members → Result ScriptEvent TableMistakeView
event_of ports units mask members =
    if is_some (get_member (key_name key.Frames) members) then frames_event ports members
    else if is_some (get_member (key_name key.Burst) members) then burst_event ports members
    else if is_some (get_member (key_name key.Say) members) then say_event ports mask members
    else if is_some (get_member (key_name key.Command) members) then command_event ports members
    else if is_some (get_member (key_name key.Light) members) then light_event units members
    else no_form members

-- the events of the event tables from this place on, in their order
unfoldable pub events_from : ℕ → ℕ → ℕ → Mask → Items → Result (List ScriptEvent) MistakeView
events_from place ports units mask no_items = Ok []
events_from place ports units mask (item (table members) rest) = do
  event ← in_table (places.Event place) (event_of ports units mask members)
  events ← events_from (place + 1) ports units mask rest
  Ok (event ∷ events)
events_from place ports units mask (item _ rest) = Err (no_table key.Event place)
