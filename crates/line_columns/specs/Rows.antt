-- The line without columns that is made of a line's fields (this profile's own rule): `[PORT] TIME DIRECTION CODE
-- [DELAY]`, with a space between two.
use Rattle.std.specs.Prelude.{ℕ, ◌&&◌, Bool, not, List, [], ◌∷◌, ◌++◌, Option, None, Some, if◌then◌else◌, codes}
use Rattle.line_columns.specs.declared.unit.TimeUnit.{TimeUnit}
use Rattle.line_columns.specs.declared.unit.TimeUnit.TheVariants.{Frames, Nanoseconds, Microseconds, Milliseconds, Seconds}
use Rattle.line_columns.specs.declared.columns.Columns.{Columns}
use Rattle.line_columns.specs.declared.columns.Separator.{Separator}
use Rattle.line_columns.specs.declared.columns.Separator.TheVariants.{Comma, Semicolon, Tab}
use Rattle.line_columns.specs.Fields.{◌>>=◌, field}
use Rattle.line_columns.specs.Texts.{is_bare, is_grant, is_nothing, is_up, is_word}

-- how a unit is written behind a time
abbrev pub unit_text : TimeUnit → List ℕ
unit_text Frames = []
unit_text Nanoseconds = codes "ns"
unit_text Microseconds = codes "us"
unit_text Milliseconds = codes "ms"
unit_text Seconds = codes "s"

-- a time that has no unit gets this one
abbrev pub with_unit : TimeUnit → List ℕ → List ℕ
with_unit unit time = if is_bare time then time ++ unit_text unit else time

abbrev pub separator_octet : Separator → ℕ
separator_octet Comma = 44
separator_octet Semicolon = 59
separator_octet Tab = 9

-- what a line says, by its fields: `port` and `delay` are empty where there are none
pub record RowTexts : Type 0 where
  pub port : List ℕ
  pub time : List ℕ
  pub direction : List ℕ
  pub code : List ℕ
  pub delay : List ℕ

-- a field that has to be one word
abbrev pub some_word : List ℕ → Option (List ℕ)
some_word text = if is_word text then Some text else None

abbrev pub word_at : ℕ → ℕ → List ℕ → Option (List ℕ)
word_at separator place text = do
  word ← field separator place text
  some_word word

-- of a column that may be left out
abbrev pub port_at : ℕ → Option ℕ → List ℕ → Option (List ℕ)
port_at separator None text = Some []
port_at separator (Some place) text = word_at separator place text

abbrev pub delay_at : ℕ → Option ℕ → List ℕ → Option (List ℕ)
delay_at separator None text = Some []
delay_at separator (Some place) text = field separator place text

-- the fields of a line; None where it has fewer columns, one that has to be a word is none, or a quotation mark isn't
-- closed before the last that is wanted
unfoldable pub row_of : Columns → List ℕ → Option RowTexts
row_of columns text = do
  port ← port_at (separator_octet columns.separator) columns.port text
  time ← word_at (separator_octet columns.separator) columns.time text
  direction ← word_at (separator_octet columns.separator) columns.direction text
  code ← field (separator_octet columns.separator) columns.code text
  delay ← delay_at (separator_octet columns.separator) columns.delay text
  Some (record { port = port; time = time; direction = direction; code = code; delay = delay })

-- what stands in front of the time
abbrev pub port_text : List ℕ → List ℕ
port_text port = if is_nothing port then [] else port ++ 32 ∷ []

-- a code stands in quotation marks, so that nothing behind its thirteenth octet is taken for a delay; a grant is words
abbrev pub code_text : List ℕ → List ℕ → List ℕ
code_text direction code = if is_grant direction then code else 34 ∷ code ++ 34 ∷ []

-- only what a unit says has a delay
abbrev pub delay_text : List ℕ → List ℕ → List ℕ
delay_text direction delay = if is_up direction && not (is_nothing delay) then 32 ∷ delay else []

abbrev pub row_text : TimeUnit → RowTexts → List ℕ
row_text unit row =
    port_text row.port ++ with_unit unit row.time ++ 32 ∷ [] ++ row.direction ++ 32 ∷ []
    ++ code_text row.direction row.code ++ delay_text row.direction row.delay
