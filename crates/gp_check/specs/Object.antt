-- What is told of a file that may be a script, as a JSON object on a line of its own (this profile's own rule).
use Rattle.std.specs.Prelude.{ℕ, List, [], ◌++◌, Option, Some, None, codes, decimal, string_bytes}
use Rattle.gp_json.specs.Spelling.{quoted_utf8}
use Rattle.gp_script.specs.declared.fault.ScriptFault.{ScriptFault}
use Rattle.gp_script.specs.declared.fault.ScriptFault.TheVariants as faults
use Rattle.gp_script.specs.declared.mistake.Mistake.{Mistake}
use Rattle.gp_script.specs.declared.mistake.Mistake.TheVariants as mistakes
use Rattle.gp_script.specs.declared.mistake.SyntaxMistake.{SyntaxMistake}
use Rattle.gp_script.specs.declared.mistake.TableMistake.{TableMistake}
use Rattle.gp_script.specs.declared.mistake.TableMistake.TheVariants as inner
use Rattle.gp_script.specs.declared.place.Spot.{Spot}
use Rattle.gp_script.specs.declared.place.Spot.TheVariants as spots
use Rattle.gp_script.specs.declared.place.TablePlace.{TablePlace}
use Rattle.gp_script.specs.declared.place.TablePlace.TheVariants as places
use Rattle.gp_script.specs.Mistake.{fault_of_wanted, key_name}
use Rattle.gp_check.specs.declared.found.Found.{Found}
use Rattle.gp_check.specs.declared.found.Found.TheVariants as found
use Rattle.gp_check.specs.Keys.{unknown_key_text}
use Rattle.gp_check.specs.Words.{wanted_text}

-- the name of a field, behind another field
abbrev pub field_name : List ℕ → List ℕ
field_name name = codes ",\"" ++ name ++ codes "\":"

-- a field that is a text, and one that is a number
abbrev pub text_field : List ℕ → List ℕ → List ℕ
text_field name text = field_name name ++ quoted_utf8 text

abbrev pub number_field : List ℕ → ℕ → List ℕ
number_field name number = field_name name ++ decimal number

-- a number that may be left out
abbrev pub number_field_if : List ℕ → Option ℕ → List ℕ
number_field_if name None = []
number_field_if name (Some number) = number_field name number

-- the word of a table, and its place in its list, counted from 0
abbrev pub table_word : TablePlace → List ℕ
table_word places.Top = codes "top"
table_word (places.Port place) = codes "port"
table_word (places.Unit place) = codes "unit"
table_word (places.Lose place) = codes "lose"
table_word (places.Event place) = codes "event"

abbrev pub table_index : TablePlace → Option ℕ
table_index places.Top = None
table_index (places.Port place) = Some place
table_index (places.Unit place) = Some place
table_index (places.Lose place) = Some place
table_index (places.Event place) = Some place

abbrev pub table_fields : TablePlace → List ℕ
table_fields table =
    text_field (codes "table") (table_word table) ++ number_field_if (codes "index") (table_index table)

-- a spot of a table
abbrev pub spot_fields : Spot → List ℕ
spot_fields spots.Table = []
spot_fields (spots.Key key) = text_field (codes "key") (key_name key)
spot_fields (spots.Item key place) = text_field (codes "key") (key_name key) ++ number_field (codes "item") place

-- the kind of a fault, by its name
abbrev pub fault_word : ScriptFault → List ℕ
fault_word faults.Syntax = codes "syntax"
fault_word faults.Shape = codes "shape"
fault_word faults.Range = codes "range"
fault_word faults.Serial = codes "serial"
fault_word faults.Hex = codes "hex"
fault_word faults.Duplicate = codes "duplicate"

-- the kind of a fault, and what is wanted or wrong
abbrev pub kind_fields : ScriptFault → List ℕ → List ℕ
kind_fields fault wanted = text_field (codes "kind") (fault_word fault) ++ text_field (codes "wanted") wanted

-- where in a table it is wrong
abbrev pub spot_of_mistake : TableMistake → List ℕ
spot_of_mistake (inner.UnknownKey key) = text_field (codes "key") (string_bytes key)
spot_of_mistake (inner.Unmet spot want) = spot_fields spot

-- what is wrong there
abbrev pub kind_of_mistake : TablePlace → TableMistake → List ℕ
kind_of_mistake table (inner.UnknownKey key) = kind_fields faults.Shape (unknown_key_text table (string_bytes key))
kind_of_mistake table (inner.Unmet spot want) = kind_fields (fault_of_wanted want) (wanted_text spot want)

-- what is wrong in a table: the table, the spot, the line where it stands, if one is known, and the fault
abbrev pub table_mistake_fields : TablePlace → TableMistake → Option ℕ → List ℕ
table_mistake_fields table mistake line =
    table_fields table ++ spot_of_mistake mistake ++ number_field_if (codes "line") line
    ++ kind_of_mistake table mistake

-- why a text is no TOML, and where
abbrev pub syntax_fields : SyntaxMistake → List ℕ
syntax_fields syntax =
    number_field (codes "line") syntax.line ++ number_field (codes "column") syntax.column
    ++ kind_fields faults.Syntax (string_bytes syntax.message)

-- what is wrong with a script
abbrev pub mistake_fields : Mistake → Option ℕ → List ℕ
mistake_fields mistakes.NoText line = kind_fields faults.Syntax (codes "not UTF-8")
mistake_fields (mistakes.NoToml syntax) line = syntax_fields syntax
mistake_fields (mistakes.Inside table mistake) line = table_mistake_fields table mistake line

-- how many ports, units and events a script has
abbrev pub count_fields : ℕ → ℕ → ℕ → List ℕ
count_fields ports units events =
    number_field (codes "ports") ports ++ number_field (codes "units") units ++ number_field (codes "events") events

-- a file that is right, and one that isn't
abbrev pub is_right : List ℕ
is_right = codes ",\"ok\":true"

abbrev pub is_wrong : List ℕ
is_wrong = codes ",\"ok\":false"

-- why a file was not looked at
abbrev pub why_fields : List ℕ → List ℕ
why_fields why = is_wrong ++ text_field (codes "why") why

-- what was found in a file
abbrev pub found_fields : Found → List ℕ
found_fields (found.Script ports units events) = is_right ++ count_fields ports units events
found_fields found.Unread = why_fields (codes "can't be read")
found_fields found.TooLong = why_fields (codes "more than 1048576 bytes")
found_fields (found.Wrong mistake line) = is_wrong ++ mistake_fields mistake line

-- the object of a file with this name: how it begins, and the whole
abbrev pub file_begun : List ℕ → List ℕ
file_begun name = codes "{\"file\":" ++ quoted_utf8 name

abbrev pub file_object : List ℕ → List ℕ → List ℕ
file_object name fields = file_begun name ++ fields ++ codes "}\n"

-- by what was found in it
abbrev pub object_of : List ℕ → Found → List ℕ
object_of name found = file_object name (found_fields found)

-- of one that was not looked at
abbrev pub unread_object : List ℕ → List ℕ → List ℕ
unread_object name why = file_object name (why_fields why)
