-- The fields of a line of a log (this profile's own rule).
use Rattle.std.specs.Prelude.{ℕ, ◌==◌, ◌||◌, Bool, true, false, not, List, [], ◌∷◌, Result, Ok, Err, if◌then◌else◌}
use Rattle.gp_lines.specs.declared.fault.LineFault.{LineFault}
use Rattle.gp_lines.specs.Reading as lines
use Rattle.gp_log.specs.declared.fault.LogFault.{LogFault}
use Rattle.gp_log.specs.declared.fault.LogFault.TheVariants as fault

-- the next step, if there is no fault so far
infixl 10 ◌>>=◌
abbrev pub ◌>>=◌ : {A B : Type 0} → Result A LogFault → (A → Result B LogFault) → Result B LogFault
Ok x >>= f = f x
Err e >>= f = Err e

-- what stands before the first octet of this kind, and what stands from there on
abbrev pub before : (ℕ → Bool) → List ℕ → List ℕ
before is [] = []
before is (octet ∷ text) = if is octet then [] else octet ∷ before is text

abbrev pub «from» : (ℕ → Bool) → List ℕ → List ℕ
«from» is [] = []
«from» is (octet ∷ text) = if is octet then octet ∷ text else «from» is text

-- what parts fields: a space, a tab, a comma, a semicolon
abbrev pub is_separator : ℕ → Bool
is_separator octet = (octet == 32) || (octet == 9) || (octet == 44) || (octet == 59)

abbrev pub is_of_field : ℕ → Bool
is_of_field octet = not (is_separator octet)

-- a text without the separators that it begins with
unfoldable pub trimmed : List ℕ → List ℕ
trimmed text = «from» is_of_field text

-- the first field of a text, empty where there is none, and what stands behind it
abbrev pub Field : Type 0
Field = List ℕ × List ℕ

abbrev pub field_here : List ℕ → Field
field_here text = (before is_separator text, «from» is_separator text)

unfoldable pub next : List ℕ → Field
next text = field_here (trimmed text)

-- a field ends here
abbrev pub is_parted : List ℕ → Bool
is_parted [] = true
is_parted (octet ∷ text) = is_separator octet

abbrev pub is_nothing : List ℕ → Bool
is_nothing [] = true
is_nothing (octet ∷ text) = false

-- what was read, if no field stands behind it
abbrev pub alone : {A : Type 0} → A → List ℕ → Result A LogFault
alone x text = if is_nothing (trimmed text) then Ok x else Err fault.Word

abbrev pub number_or : LogFault → Result ℕ LineFault → Result ℕ LogFault
number_or wrong (Ok number) = Ok number
number_or wrong (Err _) = Err wrong

-- the number of a text of one decimal digit or more, from 0 to the greatest
abbrev pub number_in : LogFault → ℕ → List ℕ → Result ℕ LogFault
number_in wrong greatest text = number_or wrong (lines.number_in 0 greatest text)
