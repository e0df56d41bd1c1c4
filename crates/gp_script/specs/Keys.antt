-- The keys of a table, each of its type (this profile's own rule).
use Rattle.std.specs.Prelude.{ℕ, ℤ, List, Bool, ◌+◌, ◌==◌, if◌then◌else◌, Option, Some, None, Result, Ok, Err, ok_or, option_map, unwrap_or}
use Rattle.std.specs.List.{list_any}
use Rattle.std.specs.Str.{bytes_eq}
use Rattle.toml.specs.Data.{Data, string, integer, boolean, array, table, Items, no_items, item, Members, no_members, member, get_member}
use Rattle.gp_script.specs.declared.place.Key.{Key}
use Rattle.gp_script.specs.declared.place.Spot.TheVariants as spots
use Rattle.gp_script.specs.declared.place.Wanted.{Wanted}
use Rattle.gp_script.specs.declared.place.Wanted.TheVariants as wanted
use Rattle.gp_script.specs.Fault.{◌>>=◌}
use Rattle.gp_script.specs.Mistake.{TableMistakeView, unknown_key, unmet, at_key, key_name, missing}

-- this is the name of one of the keys
abbrev pub is_one_of : List Key → List ℕ → Bool
is_one_of keys name = list_any (λ key. bytes_eq (key_name key) name) keys

-- the first key of a table that is none of these
abbrev pub other_key : List Key → Members → Option (List ℕ)
other_key keys no_members = None
other_key keys (member name _ rest) = if is_one_of keys name then other_key keys rest else Some name

-- there is no other key
abbrev pub no_other : Option (List ℕ) → Result (Unit {0}) TableMistakeView
no_other None = Ok tt
no_other (Some name) = Err (unknown_key name)

-- each key of a table is one of these
abbrev pub has_only : List Key → Members → Result (Unit {0}) TableMistakeView
has_only keys members = no_other (other_key keys members)

-- a number, where there is a value at all
abbrev pub number_or_none : Option Data → Result (Option ℤ) Wanted
number_or_none None = Ok None
number_or_none (Some (integer number)) = Ok (Some number)
number_or_none (Some _) = Err wanted.Number

-- a text, where there is a value at all
abbrev pub text_or_none : Option Data → Result (Option (List ℕ)) Wanted
text_or_none None = Ok None
text_or_none (Some (string text)) = Ok (Some text)
text_or_none (Some _) = Err wanted.Text

-- a truth value, where there is a value at all
abbrev pub bool_or_none : Option Data → Result (Option Bool) Wanted
bool_or_none None = Ok None
bool_or_none (Some (boolean truth)) = Ok (Some truth)
bool_or_none (Some _) = Err wanted.Truth

-- a list, where there is a value at all
abbrev pub list_or_none : Option Data → Result (Option Items) Wanted
list_or_none None = Ok None
list_or_none (Some (array items)) = Ok (Some items)
list_or_none (Some _) = Err wanted.List

-- the number at a key that may be left out
abbrev pub number_at : Key → Members → Result (Option ℤ) TableMistakeView
number_at key members = at_key key (number_or_none (get_member (key_name key) members))

-- the text at a key that may be left out
abbrev pub text_at : Key → Members → Result (Option (List ℕ)) TableMistakeView
text_at key members = at_key key (text_or_none (get_member (key_name key) members))

-- the list at a key that may be left out
abbrev pub items_at : Key → Members → Result (Option Items) TableMistakeView
items_at key members = at_key key (list_or_none (get_member (key_name key) members))

-- the same, where a list that is left out is as an empty one
abbrev pub list_at : Key → Members → Result Items TableMistakeView
list_at key members = do
  items ← items_at key members
  Ok (unwrap_or items no_items)

-- the number at a key that has to be there
abbrev pub needed_number : Key → Members → Result ℤ TableMistakeView
needed_number key members = do
  number ← number_at key members
  ok_or number (missing key)

-- the text at a key that has to be there
abbrev pub needed_text : Key → Members → Result (List ℕ) TableMistakeView
needed_text key members = do
  text ← text_at key members
  ok_or text (missing key)

-- the truth value at a key that has to be there
abbrev pub needed_bool : Key → Members → Result Bool TableMistakeView
needed_bool key members = do
  truth ← at_key key (bool_or_none (get_member (key_name key) members))
  ok_or truth (missing key)

-- the list at a key that has to be there
abbrev pub needed_list : Key → Members → Result Items TableMistakeView
needed_list key members = do
  items ← items_at key members
  ok_or items (missing key)

-- the place of the first item that is no table
abbrev pub other_than_table : Items → Option ℕ
other_than_table no_items = None
other_than_table (item (table _) rest) = option_map (λ place. place + 1) (other_than_table rest)
other_than_table (item _ rest) = Some 0

-- the place of the first item that is no text
abbrev pub other_than_text : Items → Option ℕ
other_than_text no_items = None
other_than_text (item (string _) rest) = option_map (λ place. place + 1) (other_than_text rest)
other_than_text (item _ rest) = Some 0

-- at no place something else is wanted
abbrev pub wanted_nowhere : Key → Wanted → Option ℕ → Result (Unit {0}) TableMistakeView
wanted_nowhere key want None = Ok tt
wanted_nowhere key want (Some place) = Err (unmet (spots.Item key place) want)

-- each item of the list at a key is a table
abbrev pub are_tables : Key → Items → Result (Unit {0}) TableMistakeView
are_tables key items = wanted_nowhere key wanted.Table (other_than_table items)

-- each item of the list at a key is a text
abbrev pub are_texts : Key → Items → Result (Unit {0}) TableMistakeView
are_texts key items = wanted_nowhere key wanted.Text (other_than_text items)

-- how many items there are
abbrev pub item_count : Items → ℕ
item_count no_items = 0
item_count (item _ rest) = 1 + item_count rest

-- there is no item
abbrev pub is_empty : Items → Bool
is_empty items = item_count items == 0
