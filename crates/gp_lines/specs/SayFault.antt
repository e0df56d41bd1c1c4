-- Why words say nothing (this profile's own rule).
use Rattle.std.specs.Prelude.{◌≡◌, ℕ, ◌≤◌, ◌⊎◌, List, Option, None, Some}
use Rattle.std.specs.Str.Parse.{IsNumeral, digits_value}
use Rattle.gp_lines.specs.declared.fault.LineFault.{LineFault}
use Rattle.gp_lines.specs.declared.fault.LineFault.TheVariants as fault
use Rattle.gp_lines.specs.Fault.{IsSerial, HasNumberFault}
use Rattle.gp_lines.specs.Say.{SayForm, OfSerial, OfOnu, Ack, form_parts, last_delay}

-- a number that is right
abbrev pub IsNumber : ℕ → List ℕ → Type 0
IsNumber high digits = IsNumeral 10 digits × (digits_value 10 digits ≤ high)

-- the fault of a field that may be left out, and one that is right
abbrev pub HasFieldFault : ℕ → Option (List ℕ) → LineFault → Type 0
HasFieldFault high None f = ⊥
HasFieldFault high (Some digits) f = HasNumberFault 0 high digits f

abbrev pub IsField : ℕ → Option (List ℕ) → Type 0
IsField high None = Unit {0}
IsField high (Some digits) = IsNumber high digits

-- of right words the first field from the left that has a fault
abbrev pub HasFormFault : SayForm → LineFault → Type 0
HasFormFault (OfSerial serial onu at) f =
    (¬ (IsSerial serial) × (f ≡ fault.Serial))
    ⊎ (IsSerial serial × HasFieldFault 255 onu f)
    ⊎ (IsSerial serial × IsField 255 onu × HasFieldFault last_delay at f)
HasFormFault (OfOnu says onu at) f =
    HasNumberFault 0 255 onu f ⊎ (IsNumber 255 onu × HasFieldFault last_delay at f)
HasFormFault (Ack onu id at) f =
    HasNumberFault 0 255 onu f
    ⊎ (IsNumber 255 onu × HasNumberFault 0 255 id f)
    ⊎ (IsNumber 255 onu × IsNumber 255 id × HasFieldFault last_delay at f)

-- the fault of the parts behind `say`: that of the words, then that of the first field that has one
abbrev pub HaveSayFault : List (List ℕ) → LineFault → Type 0
HaveSayFault parts f =
    (((form : SayForm) → ¬ (parts ≡ form_parts form)) × (f ≡ fault.Word))
    ⊎ ((form : SayForm) × (parts ≡ form_parts form) × HasFormFault form f)
