-- The tables under `unit`, each a simulated unit on the fibre of the script's port (this profile's own rule).
use Rattle.std.specs.Prelude.{List, [], ◌∷◌, ◌++◌, ◌&&◌, Bool, Result, Ok, Err, length, nat_le}
use Rattle.toml.specs.Data.{table, Items, no_items, item, Members}
use Rattle.gp_onu.specs.Limits.{max_delay, max_random_delay}
use Rattle.gp_script.specs.declared.script.ScriptUnit.{ScriptUnit}
use Rattle.gp_script.specs.declared.place.Key.{Key}
use Rattle.gp_script.specs.declared.place.Key.TheVariants as key
use Rattle.gp_script.specs.declared.place.TablePlace.TheVariants as places
use Rattle.gp_script.specs.Fault.{◌>>=◌}
use Rattle.gp_script.specs.Mistake.{TableMistakeView, MistakeView, at_key, in_table, no_table}
use Rattle.gp_script.specs.Keys.{has_only, number_at, needed_number, needed_text}
use Rattle.gp_script.specs.Values.{in_range, in_range_or, serial_of}

-- the delays of a unit are no longer than they may be
abbrev pub is_unit_within_limits : ScriptUnit → Bool
is_unit_within_limits unit = nat_le unit.delay max_delay && nat_le unit.random max_random_delay

-- the keys of a unit table
abbrev pub unit_keys : List Key
unit_keys = key.Serial ∷ key.Delay ∷ key.Random ∷ []

-- a unit table
unfoldable pub unit_of : Members → Result ScriptUnit TableMistakeView
unit_of members = do
  _ ← has_only unit_keys members
  serial ← needed_text key.Serial members
  delay ← needed_number key.Delay members
  random ← number_at key.Random members
  serial ← at_key key.Serial (serial_of serial)
  delay ← at_key key.Delay (in_range 0 max_delay delay)
  random ← at_key key.Random (in_range_or 0 0 max_random_delay random)
  Ok (record { serial = serial; delay = delay; random = random })

-- the units of the unit tables, behind those before them
unfoldable pub units_from : List ScriptUnit → Items → Result (List ScriptUnit) MistakeView
units_from before no_items = Ok before
units_from before (item (table members) rest) = do
  unit ← in_table (places.Unit (length before)) (unit_of members)
  units_from (before ++ unit ∷ []) rest
units_from before (item _ rest) = Err (no_table key.Unit (length before))
