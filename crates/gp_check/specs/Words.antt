-- How a mistake of a script is told: where it is, its kind, and what is wanted there (this profile's own rule).
use Rattle.std.specs.Prelude.{ℕ, ◌==◌, ◌&&◌, ◌||◌, Bool, true, false, List, [], ◌++◌, Option, Some, None, if◌then◌else◌, codes, decimal, length, nat_le, not, string_bytes}
use Rattle.std.specs.Char.{is_ascii_alphanumeric}
use Rattle.std.specs.List.{list_all}
use Rattle.gp_script.specs.declared.fault.ScriptFault.{ScriptFault}
use Rattle.gp_script.specs.declared.fault.ScriptFault.TheVariants as faults
use Rattle.gp_script.specs.declared.mistake.Mistake.{Mistake}
use Rattle.gp_script.specs.declared.mistake.Mistake.TheVariants as mistakes
use Rattle.gp_script.specs.declared.mistake.SyntaxMistake.{SyntaxMistake}
use Rattle.gp_script.specs.declared.mistake.TableMistake.{TableMistake}
use Rattle.gp_script.specs.declared.mistake.TableMistake.TheVariants as inner
use Rattle.gp_script.specs.declared.place.Counted.{Counted}
use Rattle.gp_script.specs.declared.place.Counted.TheVariants as counted
use Rattle.gp_script.specs.declared.place.Key.TheVariants as keys
use Rattle.gp_script.specs.declared.place.Spot.{Spot}
use Rattle.gp_script.specs.declared.place.Spot.TheVariants as spots
use Rattle.gp_script.specs.declared.place.TablePlace.{TablePlace}
use Rattle.gp_script.specs.declared.place.TablePlace.TheVariants as places
use Rattle.gp_script.specs.declared.place.Wanted.{Wanted}
use Rattle.gp_script.specs.declared.place.Wanted.TheVariants as wanted
use Rattle.gp_script.specs.Mistake.{fault_of_wanted, key_name}
use Rattle.gp_check.specs.Keys.{unknown_key_text}

-- a word and a number
abbrev pub numbered : List ℕ → ℕ → List ℕ
numbered word number = word ++ codes " " ++ decimal number

-- a table of a list, counted from 0
abbrev pub table_text : TablePlace → List ℕ
table_text places.Top = codes "top"
table_text (places.Port place) = numbered (codes "port") place
table_text (places.Unit place) = numbered (codes "unit") place
table_text (places.Lose place) = numbered (codes "lose") place
table_text (places.Event place) = numbered (codes "event") place

-- the table is the top
abbrev pub is_top : TablePlace → Bool
is_top places.Top = true
is_top (places.Port place) = false
is_top (places.Unit place) = false
is_top (places.Lose place) = false
is_top (places.Event place) = false

-- a key, behind its table, but for one of the top
abbrev pub key_text : TablePlace → List ℕ → List ℕ
key_text table key = if is_top table then key else table_text table ++ codes ", " ++ key

-- a spot of a table
abbrev pub place_text : TablePlace → Spot → List ℕ
place_text table spots.Table = table_text table
place_text table (spots.Key key) = key_text table (key_name key)
place_text table (spots.Item key place) = key_text table (numbered (key_name key) place)

-- the kind of a fault, by its number and its name
abbrev pub fault_text : ScriptFault → List ℕ
fault_text faults.Syntax = codes "1 syntax"
fault_text faults.Shape = codes "2 shape"
fault_text faults.Range = codes "3 range"
fault_text faults.Serial = codes "4 serial"
fault_text faults.Hex = codes "5 hex"
fault_text faults.Duplicate = codes "6 duplicate"

-- from one number to another
abbrev pub range_text : ℕ → ℕ → List ℕ
range_text low high = decimal low ++ codes " to " ++ decimal high

-- what is counted
abbrev pub counted_text : Counted → List ℕ
counted_text counted.Tables = codes "tables"
counted_text counted.Serials = codes "serial numbers"

-- an unknown word, and those that there are at the key
abbrev pub unknown_word : Spot → List ℕ
unknown_word (spots.Key keys.Say) = codes "unknown word; there are serial, gasp, none, ack"
unknown_word (spots.Key keys.Command) =
    codes "unknown word; there are search, alloc, dealloc, deactivate, disable, enable, enable-all, popup, popup-all, show"
unknown_word _ = codes "unknown word"

-- a value is missing; of the top it has to stand before the first table, whose key it would be behind that
abbrev pub missing_text : Spot → List ℕ
missing_text (spots.Key keys.Licences) = codes "missing; it has to stand before the first table"
missing_text _ = codes "missing"

-- something is no list; a list of tables has headers of its own
abbrev pub no_list_text : Spot → List ℕ
no_list_text (spots.Key keys.Port) = codes "not a list; each table of it begins with [[port]]"
no_list_text (spots.Key keys.Unit) = codes "not a list; each table of it begins with [[unit]]"
no_list_text (spots.Key keys.Lose) = codes "not a list; each table of it begins with [[lose]]"
no_list_text (spots.Key keys.Event) = codes "not a list; each table of it begins with [[event]]"
no_list_text _ = codes "not a list"

-- what is wanted at a spot, or what is wrong with what stands there
abbrev pub wanted_text : Spot → Wanted → List ℕ
wanted_text spot wanted.Value = missing_text spot
wanted_text spot wanted.Number = codes "not a whole number"
wanted_text spot wanted.Text = codes "not a text"
wanted_text spot wanted.Truth = codes "not true or false"
wanted_text spot wanted.List = no_list_text spot
wanted_text spot wanted.Table = codes "not a table"
wanted_text spot wanted.Form = codes "no form of an event, which has frames, burst, say, command or light"
wanted_text spot wanted.Word = unknown_word spot
wanted_text spot wanted.OneLoss = codes "either copy or burst"
wanted_text spot wanted.Units = codes "only beside units"
wanted_text spot wanted.NoUnits = codes "not in a storm"
wanted_text spot wanted.OnePort = codes "only beside one port"
wanted_text spot (wanted.Range low high) = range_text low high
wanted_text spot (wanted.Count counted low high) = range_text low high ++ codes " " ++ counted_text counted
wanted_text spot wanted.MaskNumber = codes "0 or 85"
wanted_text spot wanted.SerialText = codes "4 of A to Z and 0 to 9 and 8 hexadecimal digits, or 16 hexadecimal digits"
wanted_text spot (wanted.Digits count) = decimal count ++ codes " hexadecimal digits"
wanted_text spot (wanted.NewSerial port) = numbered (codes "also on port") port

-- how many octets of an unknown key are shown at most
abbrev pub max_shown : ℕ
max_shown = 64

-- an octet of a key that stands without quotes: a letter, a digit, _ or -
abbrev pub is_bare_octet : ℕ → Bool
is_bare_octet octet = is_ascii_alphanumeric octet || (octet == 95 || octet == 45)

-- a key is shown where it needs no quotes, as one without octets does, and isn't too long
abbrev pub is_shown : List ℕ → Bool
is_shown key = not (length key == 0) && nat_le (length key) max_shown && list_all is_bare_octet key

-- the table, and an unknown key of it where it is shown
abbrev pub unknown_text : TablePlace → List ℕ → List ℕ
unknown_text table key = if is_shown key then key_text table key else table_text table

-- what is wrong in a table
abbrev pub table_mistake_text : TablePlace → TableMistake → List ℕ
table_mistake_text table (inner.UnknownKey key) =
    unknown_text table (string_bytes key) ++ codes ": 2 shape, " ++ unknown_key_text table (string_bytes key)
table_mistake_text table (inner.Unmet spot want) =
    place_text table spot ++ codes ": " ++ fault_text (fault_of_wanted want) ++ codes ", " ++ wanted_text spot want

-- why a text is no TOML, and where
abbrev pub syntax_text : SyntaxMistake → List ℕ
syntax_text syntax =
    numbered (codes "line") syntax.line ++ codes ", " ++ numbered (codes "column") syntax.column ++ codes ": 1 syntax, "
    ++ string_bytes syntax.message

-- what is wrong with a script
abbrev pub mistake_text : Mistake → List ℕ
mistake_text mistakes.NoText = codes "1 syntax, not UTF-8"
mistake_text (mistakes.NoToml syntax) = syntax_text syntax
mistake_text (mistakes.Inside table mistake) = table_mistake_text table mistake

-- the line where a mistake stands, where it is known
abbrev pub line_text : Option ℕ → List ℕ
line_text None = []
line_text (Some line) = codes ", line " ++ decimal line

-- what is wrong with a script, and in which line
abbrev pub placed_text : Mistake → Option ℕ → List ℕ
placed_text mistake line = mistake_text mistake ++ line_text line
