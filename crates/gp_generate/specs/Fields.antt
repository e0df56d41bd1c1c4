-- The text of a table: its name, its keys with their values, and an empty line (TOML 1.0).
use Rattle.std.specs.Prelude.{ℕ, Bool, true, false, List, [], ◌∷◌, ◌++◌, codes, decimal}

-- a key with its value
pub data Field : Type 0 where
  number : List ℕ → ℕ → Field
  text : List ℕ → List ℕ → Field
  truth : List ℕ → Bool → Field

unfoldable pub number_line : List ℕ → ℕ → List ℕ
number_line name value = name ++ codes " = " ++ decimal value ++ codes "\n"

unfoldable pub text_line : List ℕ → List ℕ → List ℕ
text_line name value = name ++ codes " = \"" ++ value ++ codes "\"\n"

abbrev pub truth_text : Bool → List ℕ
truth_text true = codes " = true\n"
truth_text false = codes " = false\n"

unfoldable pub truth_line : List ℕ → Bool → List ℕ
truth_line name value = name ++ truth_text value

abbrev pub line_of : Field → List ℕ
line_of (number name value) = number_line name value
line_of (text name value) = text_line name value
line_of (truth name value) = truth_line name value

-- the lines of keys, and an empty one behind them
abbrev pub lines_of : List Field → List ℕ
lines_of [] = codes "\n"
lines_of (field ∷ fields) = line_of field ++ lines_of fields

-- a table of a list of tables
abbrev pub table_text : List ℕ → List Field → List ℕ
table_text name fields = codes "[[" ++ name ++ codes "]]\n" ++ lines_of fields
