-- The place of a column that is asked for (this profile's own rule).
use Rattle.std.specs.Prelude.{◌≡◌, ℕ, suc, zero, ◌<◌, ◌^◌, Bool, List, Option, None, Some, is_some}
use Rattle.std.specs.Option.{SomeIff}
use Rattle.std.specs.Str.Parse.{IsNumeral, digits_value, without_leading_plus}
use Rattle.line_columns.specs.declared.columns.Separator.{Separator}
use Rattle.line_columns.specs.Heading.{IsPlace}

-- a number of decimal digits below 2 ^ 16, if a text is one
abbrev pub IsNumber : List ℕ → Option ℕ → Type 0
IsNumber text number =
    SomeIff number
    (IsNumeral 10 (without_leading_plus text) × (digits_value 10 (without_leading_plus text) < 2 ^ 16))
    (digits_value 10 (without_leading_plus text))

-- whether a text is one
abbrev pub IsNumbered : List ℕ → Bool → Type 0
IsNumbered text told = (number : Option ℕ) × IsNumber text number × (told ≡ is_some number)

-- columns are counted from 1; what is no number is a name
abbrev pub IsPlaceBy : Option ℕ → Separator → List ℕ → List ℕ → Option ℕ → Type 0
IsPlaceBy (Some zero) separator name heading place = place ≡ None
IsPlaceBy (Some (suc number)) separator name heading place = place ≡ Some number
IsPlaceBy None separator name heading place = IsPlace separator name heading place

abbrev pub IsPlaceAsked : Separator → List ℕ → List ℕ → Option ℕ → Type 0
IsPlaceAsked separator column heading place =
    (number : Option ℕ) × IsNumber column number × IsPlaceBy number separator column heading place
