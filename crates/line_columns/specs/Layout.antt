-- What is read of a line with a layout (this profile's own rule): a line without columns, `[PORT] TIME DIRECTION CODE
-- [DELAY]`.
use Rattle.std.specs.Prelude.{ℕ, ◌==◌, ◌&&◌, ◌||◌, Bool, true, false, List, [], ◌∷◌, ◌++◌, Option, None, Some, if◌then◌else◌, codes}
use Rattle.std.specs.Str.{bytes_eq}
use Rattle.line_columns.specs.declared.unit.TimeUnit.{TimeUnit}
use Rattle.line_columns.specs.declared.unit.TimeUnit.TheVariants.{Frames, Nanoseconds, Microseconds, Milliseconds, Seconds}
use Rattle.line_columns.specs.declared.columns.Columns.{Columns}
use Rattle.line_columns.specs.Rows.{RowTexts, row_of, row_text, unit_text}
use Rattle.line_columns.specs.Texts.{before, «from», is_bare, is_direction, is_of_word, is_separator}

-- the unit of a bare time; which column is which, if lines have columns; and the line that names them, if one does
pub record LayoutState : Type 0 where
  pub unit : TimeUnit
  pub columns : Option Columns
  pub heading : List ℕ

-- lines as they are
abbrev pub as_they_are : LayoutState
as_they_are = record { unit = Frames; columns = None; heading = [] }

-- ---- the text of a line

-- a text without a byte order mark in front
abbrev pub without_order_mark : List ℕ → List ℕ
without_order_mark [] = []
without_order_mark (first ∷ []) = first ∷ []
without_order_mark (first ∷ second ∷ []) = first ∷ second ∷ []
without_order_mark (first ∷ second ∷ third ∷ text) =
    if (first == 239) && (second == 187) && (third == 191) then text else first ∷ second ∷ third ∷ text

-- a text without a carriage return at its end
abbrev pub without_return : List ℕ → List ℕ
without_return [] = []
without_return (octet ∷ []) = if octet == 13 then [] else octet ∷ []
without_return (octet ∷ next ∷ rest) = octet ∷ without_return (next ∷ rest)

abbrev pub text_of : List ℕ → List ℕ
text_of line = without_return (without_order_mark line)

-- ---- a line without columns whose time gets a unit

-- the first field of a text, empty where there is none, and what stands behind it
abbrev pub Word : Type 0
Word = List ℕ × List ℕ

abbrev pub word_here : List ℕ → Word
word_here text = (before is_separator text, «from» is_separator text)

unfoldable pub next_word : List ℕ → Word
next_word text = word_here («from» is_of_word text)

-- the time stands first
abbrev pub timed_first : TimeUnit → List ℕ → Word → List ℕ
timed_first unit text time = if is_bare time.0 then time.0 ++ unit_text unit ++ time.1 else text

-- the time stands behind a port
abbrev pub timed_second : TimeUnit → List ℕ → List ℕ → Word → List ℕ
timed_second unit text port time =
    if is_bare port && is_bare time.0 then port ++ 32 ∷ [] ++ time.0 ++ unit_text unit ++ time.1 else text

-- the word in front of the direction gets the unit, if it is bare; a line without a direction there stays as it is
abbrev pub timed_by : TimeUnit → List ℕ → Word → Word → Word → List ℕ
timed_by unit text first second third =
    if is_direction second.0 then timed_first unit text first
    else if is_direction third.0 then timed_second unit text first.0 second
    else text

abbrev pub timed : TimeUnit → List ℕ → List ℕ
timed unit text =
    timed_by unit text (next_word text) (next_word (next_word text).1) (next_word (next_word (next_word text).1).1)

-- ---- a line with columns

-- it says nothing
abbrev pub is_remark : List ℕ → Bool
is_remark [] = true
is_remark (octet ∷ text) = octet == 35

-- a line that isn't laid out is none
abbrev pub unread : List ℕ → List ℕ
unread text = codes "? " ++ text

abbrev pub row_or_unread : TimeUnit → List ℕ → Option RowTexts → List ℕ
row_or_unread unit text None = unread text
row_or_unread unit text (Some row) = row_text unit row

-- the line that names the columns says nothing, as often as it comes
abbrev pub laid : TimeUnit → List ℕ → Columns → List ℕ → List ℕ
laid unit heading columns text =
    if is_remark text then text
    else if bytes_eq text heading then []
    else row_or_unread unit text (row_of columns text)

-- ---- a line

abbrev pub timed_line : TimeUnit → List ℕ → List ℕ
timed_line Frames line = line
timed_line unit line = timed unit (text_of line)

abbrev pub plain_by : TimeUnit → List ℕ → Option Columns → List ℕ → List ℕ
plain_by unit heading None line = timed_line unit line
plain_by unit heading (Some columns) line = laid unit heading columns (text_of line)

-- what is read of a line
abbrev pub plain_of : LayoutState → List ℕ → List ℕ
plain_of layout line = plain_by layout.unit layout.heading layout.columns line
