-- What a text says as a script, or its first fault (this profile's own rule).
use Rattle.std.specs.Prelude.{ℕ, ℤ, List, [], ◌∷◌, Option, Some, None, Result, Ok, Err, Bool, true, false, if◌then◌else◌, nat_le}
use Rattle.std.specs.Str.{is_utf8}
use Rattle.toml.specs.Data.{Items, Members}
use Rattle.toml.specs.Parse.{parse_document}
use Rattle.gp_ploam.specs.declared.check.Mask.{Mask}
use Rattle.gp_licence.specs.Limits.{max_licences}
use Rattle.gp_machine.specs.Config.{max_ports, max_journal_limit}
use Rattle.gp_machine.specs.declared.config.PortConfig.{PortConfig}
use Rattle.gp_onu.specs.Limits.{max_simulated_units}
use Rattle.gp_script.specs.declared.script.ScriptEvent.{ScriptEvent}
use Rattle.gp_script.specs.declared.script.ScriptUnit.{ScriptUnit}
use Rattle.gp_script.specs.declared.fault.ScriptFault.{ScriptFault}
use Rattle.gp_script.specs.declared.place.Counted.TheVariants as counted
use Rattle.gp_script.specs.declared.place.Key.{Key}
use Rattle.gp_script.specs.declared.place.Key.TheVariants as key
use Rattle.gp_script.specs.declared.place.TablePlace.TheVariants as places
use Rattle.gp_script.specs.declared.place.Spot.TheVariants as spots
use Rattle.gp_script.specs.declared.place.Wanted.TheVariants as wanted
use Rattle.gp_script.specs.Fault.{◌>>=◌, needs}
use Rattle.gp_script.specs.Mistake.{TableMistakeView, unmet, MistakeView, no_text, no_toml, at_key, in_table, without_place}
use Rattle.gp_script.specs.Keys.{has_only, number_at, needed_number, list_at, needed_list, are_tables, is_empty, item_count}
use Rattle.gp_script.specs.Values.{in_range, in_range_or, count_in, mask_of}
use Rattle.gp_script.specs.Port.{ports_from}
use Rattle.gp_script.specs.Unit.{units_from}
use Rattle.gp_script.specs.Lose.{LossesView, losses_from, no_losses}
use Rattle.gp_script.specs.Event.{events_from}

-- how many events a script may have at most
abbrev pub max_events : ℕ
max_events = 1048576

-- what stands at the keys of the top, each of its type and in no range yet
pub record TopShape : Type 0 where
  -- how many licences there are
  pub licences : ℤ
  -- the number of the mask, where it isn't left out
  pub mask : Option ℤ
  -- how many entries the journal of a port keeps at most, where it isn't left out
  pub journal_limit : Option ℤ
  -- the port tables
  pub ports : Items
  -- the unit tables
  pub units : Items
  -- the tables of what is lost
  pub losses : Items
  -- the event tables
  pub events : Items

-- the keys of the top
abbrev pub top_keys : List Key
top_keys = key.Licences ∷ key.Mask ∷ key.JournalLimit ∷ key.Port ∷ key.Unit ∷ key.Lose ∷ key.Event ∷ []

-- units stand on the fibre of one port, where units may stand at all, and only beside units is there anything that
-- could be lost
abbrev pub fit_together : Bool → Items → Items → Items → Result (Unit {0}) TableMistakeView
fit_together may_have_units ports units losses =
    if is_empty units then needs (unmet (spots.Key key.Lose) wanted.Units) (is_empty losses)
    else if may_have_units then needs (unmet (spots.Key key.Unit) wanted.OnePort) (nat_le (item_count ports) 1)
    else Err (unmet (spots.Key key.Unit) wanted.NoUnits)

-- the top by its shape: the keys that it may have, each value of its type, nothing but tables in `port`, `unit`,
-- `lose` and `event`, and no tables that don't fit together, with units or without any
unfoldable pub top_shape : Bool → Members → Result TopShape TableMistakeView
top_shape may_have_units members = do
  _ ← has_only top_keys members
  licences ← needed_number key.Licences members
  mask ← number_at key.Mask members
  journal_limit ← number_at key.JournalLimit members
  ports ← needed_list key.Port members
  units ← list_at key.Unit members
  losses ← list_at key.Lose members
  events ← list_at key.Event members
  _ ← are_tables key.Port ports
  _ ← are_tables key.Unit units
  _ ← are_tables key.Lose losses
  _ ← are_tables key.Event events
  _ ← fit_together may_have_units ports units losses
  Ok (record {
    licences = licences;
    mask = mask;
    journal_limit = journal_limit;
    ports = ports;
    units = units;
    losses = losses;
    events = events;
  })

-- what the top says, and how many ports and units there are
pub record TopView : Type 0 where
  pub licences : ℕ
  pub mask : Mask
  pub journal_limit : ℕ
  pub port_count : ℕ
  pub unit_count : ℕ
  -- the tables of each list
  pub ports : Items
  pub units : Items
  pub losses : Items
  pub events : Items

-- each value of the top in its range
unfoldable pub top_of : Bool → Members → Result TopView TableMistakeView
top_of may_have_units members = do
  shape ← top_shape may_have_units members
  licences ← at_key key.Licences (in_range 0 max_licences shape.licences)
  mask ← at_key key.Mask (mask_of shape.mask)
  journal_limit ← at_key key.JournalLimit (in_range_or max_journal_limit 1 max_journal_limit shape.journal_limit)
  port_count ← at_key key.Port (count_in counted.Tables 1 max_ports shape.ports)
  unit_count ← at_key key.Unit (count_in counted.Tables 0 max_simulated_units shape.units)
  _ ← at_key key.Event (count_in counted.Tables 0 max_events shape.events)
  Ok (record {
    licences = licences;
    mask = mask;
    journal_limit = journal_limit;
    port_count = port_count;
    unit_count = unit_count;
    ports = shape.ports;
    units = shape.units;
    losses = shape.losses;
    events = shape.events;
  })

-- what a script says
pub record ScriptView : Type 0 where
  -- how many licences the terminal has
  pub licences : ℕ
  -- the mask of every port
  pub mask : Mask
  -- how many entries the journal of a port keeps at most
  pub journal_limit : ℕ
  -- the configuration of each port
  pub ports : List PortConfig
  -- the simulated units on the fibre of the port
  pub units : List ScriptUnit
  -- what is lost on the way
  pub losses : LossesView
  -- what happens, in order
  pub events : List ScriptEvent

-- the tables in their order: the top, the ports, the units, what is lost, the events
unfoldable pub script_of_table : Bool → Members → Result ScriptView MistakeView
script_of_table may_have_units members = do
  top ← in_table places.Top (top_of may_have_units members)
  ports ← ports_from top.mask [] top.ports
  units ← units_from [] top.units
  losses ← losses_from 0 no_losses top.losses
  events ← events_from 0 top.port_count top.unit_count top.mask top.events
  Ok (record {
    licences = top.licences;
    mask = top.mask;
    journal_limit = top.journal_limit;
    ports = ports;
    units = units;
    losses = losses;
    events = events;
  })

-- the text that bytes are
abbrev pub text_of : List ℕ → Result (List ℕ) MistakeView
text_of bytes = if is_utf8 bytes then Ok bytes else Err no_text

-- a table, where the text is TOML at all
abbrev pub table_or_mistake : Option Members → Result Members MistakeView
table_or_mistake None = Err no_toml
table_or_mistake (Some members) = Ok members

-- what the bytes say as a script that may have simulated units or may have none, or the first mistake
unfoldable pub script_of_bytes : Bool → List ℕ → Result ScriptView MistakeView
script_of_bytes may_have_units bytes = do
  text ← text_of bytes
  members ← table_or_mistake (parse_document text)
  script_of_table may_have_units members

-- what the bytes say as a script that is replayed, or the first mistake and its place
abbrev pub script_or_mistake : List ℕ → Result ScriptView MistakeView
script_or_mistake bytes = script_of_bytes true bytes

-- what they say as a script for a storm, which has no simulated units, or the first mistake and its place
abbrev pub storm_script_or_mistake : List ℕ → Result ScriptView MistakeView
storm_script_or_mistake bytes = script_of_bytes false bytes

-- the same, or the first fault, wherever it is
unfoldable pub script_or_fault : Bool → List ℕ → Result ScriptView ScriptFault
script_or_fault may_have_units bytes = without_place (script_of_bytes may_have_units bytes)

-- what the bytes say as a script that is replayed, or the first fault
abbrev pub script_of : List ℕ → Result ScriptView ScriptFault
script_of bytes = script_or_fault true bytes

-- what the bytes say as a script for a storm, which has no simulated units, or the first fault
abbrev pub storm_script_of : List ℕ → Result ScriptView ScriptFault
storm_script_of bytes = script_or_fault false bytes
