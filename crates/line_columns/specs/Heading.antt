-- The column of a name (this profile's own rule).
use Rattle.std.specs.Prelude.{◌≡◌, ℕ, ◌<◌, Bool, true, false, List, Option, None, Some}
use Rattle.std.specs.Str.{bytes_eq}
use Rattle.line_columns.specs.declared.columns.Separator.{Separator}
use Rattle.line_columns.specs.Fields.{field}
use Rattle.line_columns.specs.Layout.{text_of}
use Rattle.line_columns.specs.Rows.{separator_octet}

-- how many columns are looked at for a name
abbrev pub most_columns : ℕ
most_columns = 1024

abbrev pub has_name : List ℕ → Option (List ℕ) → Bool
has_name name None = false
has_name name (Some column) = bytes_eq column name

-- the column with so many before it has this name
abbrev pub is_named : Separator → List ℕ → List ℕ → ℕ → Bool
is_named separator name heading place = has_name name (field (separator_octet separator) place (text_of heading))

-- the first column of this name, or none has it
abbrev pub IsPlace : Separator → List ℕ → List ℕ → Option ℕ → Type 0
IsPlace separator name heading None =
    (place : ℕ) → place < most_columns → is_named separator name heading place ≡ false
IsPlace separator name heading (Some place) =
    (is_named separator name heading place ≡ true)
    × ((other : ℕ) → other < place → is_named separator name heading other ≡ false)
