-- Which columns are asked for (this profile's own rule): `KEY=COLUMN` with commas between, KEY one of `time`, `dir`,
-- `code`, `delay` and `port`, COLUMN a number from 1, or a name of the line that names the columns. Of a key that comes
-- twice the last counts.
use Rattle.std.specs.Prelude.{◌≡◌, ℕ, ◌==◌, Bool, List, [], ◌∷◌, length, Option, None, Some, Result, Ok, Err, if◌then◌else◌, codes, option_map}
use Rattle.std.specs.List.{after_first, before_first, position_or_len, slice_split}
use Rattle.std.specs.Str.{bytes_eq}
use Rattle.line_columns.specs.declared.asked.AskedFault.{AskedFault}
use Rattle.line_columns.specs.declared.asked.AskedFault.TheVariants as faults
use Rattle.line_columns.specs.declared.asked.Parts.{Parts}
use Rattle.line_columns.specs.Texts.{is_nothing}

abbrev pub is_comma : ℕ → Bool
is_comma octet = octet == 44

abbrev pub is_equals : ℕ → Bool
is_equals octet = octet == 61

-- what stands before, between and behind the commas of a text
unfoldable pub parts_of : List ℕ → List (List ℕ)
parts_of text = slice_split is_comma text

-- the column of each key, if one is given
pub record PartTexts : Type 0 where
  pub time : Option (List ℕ)
  pub direction : Option (List ℕ)
  pub code : Option (List ℕ)
  pub delay : Option (List ℕ)
  pub port : Option (List ℕ)

abbrev pub no_parts : PartTexts
no_parts = record { time = None; direction = None; code = None; delay = None; port = None }

-- those that are kept
abbrev pub texts_of : Parts → PartTexts
texts_of parts =
    record {
      time = option_map (λ text. text.now) parts.time;
      direction = option_map (λ text. text.now) parts.direction;
      code = option_map (λ text. text.now) parts.code;
      delay = option_map (λ text. text.now) parts.delay;
      port = option_map (λ text. text.now) parts.port;
    }

-- a key has this column; None where it is no key, or the column is empty
unfoldable pub with_key : PartTexts → List ℕ → List ℕ → Option PartTexts
with_key parts key column =
    if is_nothing column then None
    else if bytes_eq key (codes "time") then Some (record parts { time = Some column })
    else if bytes_eq key (codes "dir") then Some (record parts { direction = Some column })
    else if bytes_eq key (codes "code") then Some (record parts { code = Some column })
    else if bytes_eq key (codes "delay") then Some (record parts { delay = Some column })
    else if bytes_eq key (codes "port") then Some (record parts { port = Some column })
    else None

unfoldable pub with_part : PartTexts → List ℕ → Option PartTexts
with_part parts part =
    if position_or_len is_equals part == length part then None
    else with_key parts (before_first is_equals part) (after_first is_equals part)

-- what follows, if a part says which column a key has; else it is given back
abbrev pub part_or : List ℕ → Option PartTexts → (PartTexts → Result PartTexts (List ℕ)) → Result PartTexts (List ℕ)
part_or part None next = Err part
part_or part (Some parts) next = next parts

abbrev pub with_parts : PartTexts → List (List ℕ) → Result PartTexts (List ℕ)
with_parts parts [] = Ok parts
with_parts parts (part ∷ others) = part_or part (with_part parts part) (λ next. with_parts next others)

-- the column of each key, or the first part that says none
abbrev pub parts_in : List ℕ → Result PartTexts (List ℕ)
parts_in text = with_parts no_parts (parts_of text)

abbrev pub missing_of : Option (List ℕ) → Option (List ℕ) → Option (List ℕ) → Option (List ℕ)
missing_of None direction code = Some (codes "time")
missing_of (Some time) None code = Some (codes "dir")
missing_of (Some time) (Some direction) None = Some (codes "code")
missing_of (Some time) (Some direction) (Some code) = None

-- the first key that has to have a column and has none
abbrev pub missing_key : PartTexts → Option (List ℕ)
missing_key parts = missing_of parts.time parts.direction parts.code

-- these columns are asked for
abbrev pub AreAsked : List ℕ → Parts → Type 0
AreAsked text parts = (parts_in text ≡ Ok (texts_of parts)) × (missing_key (texts_of parts) ≡ None)

-- this is what is wrong: a part that says no column of a key, or a key that has none
abbrev pub IsWrong : List ℕ → AskedFault → Type 0
IsWrong text (faults.Part part) = parts_in text ≡ Err part.now
IsWrong text (faults.Missing key) =
    (parts : PartTexts) × (parts_in text ≡ Ok parts) × (missing_key parts ≡ Some key.now)
