-- The keys that a table may have (this profile's own rule).
use Rattle.std.specs.Prelude.{List}
use Rattle.gp_script.specs.declared.place.Key.{Key}
use Rattle.gp_script.specs.declared.place.TablePlace.{TablePlace}
use Rattle.gp_script.specs.declared.place.TablePlace.TheVariants as places
use Rattle.gp_script.specs.Port.{port_keys}
use Rattle.gp_script.specs.Unit.{unit_keys}
use Rattle.gp_script.specs.Lose.{lose_keys}
use Rattle.gp_script.specs.Event.{event_keys}
use Rattle.gp_script.specs.Script.{top_keys}

-- the keys of a table; of an event those of all its forms
abbrev pub keys_of : TablePlace → List Key
keys_of places.Top = top_keys
keys_of (places.Port place) = port_keys
keys_of (places.Unit place) = unit_keys
keys_of (places.Lose place) = lose_keys
keys_of (places.Event place) = event_keys
