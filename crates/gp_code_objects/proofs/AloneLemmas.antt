-- The fault that is told of one code is the one that the code has.
use Rattle.std.proofs.Common.{◌≡◌, ℕ, ◌++◌, Bool, true, false, List, None, Some, Option, Ok, codes, refl, ap, subst}
use Rattle.std.specs.Prelude.{◌↔◌}
use Rattle.hex.specs.Hex.{decode_of}
use Rattle.gp_ploam.specs.declared.check.Mask.{Mask}
use Rattle.gp_decode.specs.declared.fault.DecodeFault.{DecodeFault}
use Rattle.gp_decode.specs.declared.fault.DecodeFault.TheVariants as fault
use Rattle.gp_decode.specs.Line.{HasDecodeFault, SaysCode, SaysIn}
use Rattle.gp_decode.specs.Message.{down_text, up_text}
use Rattle.gp_decode.proofs.Faults.{fault_of_said, one_fault}
use Rattle.gp_code_objects.specs.Decoded.{ShowsCode, ShowsDigits}

-- the fault that is told, or another where none is
abbrev told_in : DecodeFault → Option DecodeFault → DecodeFault
told_in other None = other
told_in other (Some f) = f

-- a fault that the text has is told exactly where it is the one
own_fault : (mask : Mask) (text : List ℕ) (f g : DecodeFault) → HasDecodeFault mask text f → (◌≡◌ {A = Option DecodeFault} (Some f) (Some g)) ↔ HasDecodeFault mask text g
own_fault mask text f g has = (
  λ same. subst (HasDecodeFault mask text) (ap (told_in f) same) has,
  λ h. ap (λ (x : DecodeFault). Some x) (one_fault mask text f g has h),
)

-- a text that is the code of a message has no fault
none_told : (mask : Mask) (text : List ℕ) (g : DecodeFault) → ((h : HasDecodeFault mask text g) → ⊥) → (◌≡◌ {A = Option DecodeFault} None (Some g)) ↔ HasDecodeFault mask text g
none_told mask text g none = (λ same. cc same, λ h. absurd (none h))

said_words : (upstream : Bool) (mask : Mask) (line : ℕ) (code said : List ℕ) → ShowsCode upstream mask line code said
    → (words : List ℕ) × SaysCode false upstream mask code words
said_words true mask line code said shows = (up_text shows.0 ++ codes "\n", (up_text shows.0, (shows.0, shows.1, refl), refl))
said_words false mask line code said shows = (down_text shows.0 ++ codes "\n", (down_text shows.0, (shows.0, shows.1, refl), refl))

says_so : (upstream : Bool) (mask : Mask) (line : ℕ) (text said code : List ℕ) → decode_of text ≡ Ok code → ShowsCode upstream mask line code said
    → (words : List ℕ) × SaysIn false upstream mask text words
says_so upstream mask line text said code spelled shows =
    let words = said_words upstream mask line code said shows in
    (words.0, record { code = code; spelled = spelled; said = words.1 })

pub shown_fault : (upstream : Bool) (mask : Mask) (line : ℕ) (text said : List ℕ) (told : Option DecodeFault) (g : DecodeFault)
    → ShowsDigits upstream mask line text told said → (told ≡ Some g) ↔ HasDecodeFault mask text g
shown_fault upstream mask line text said None g (code, spelled, shows) =
    let words = says_so upstream mask line text said code spelled shows in
    none_told mask text g (fault_of_said false upstream mask text words.0 g words.1)
shown_fault upstream mask line text said (Some fault.Crc) g (code, spelled, long, wrong, is) =
    own_fault mask text fault.Crc g (code, spelled, long, wrong)
shown_fault upstream mask line text said (Some fault.Length) g shows = own_fault mask text fault.Length g shows.0
shown_fault upstream mask line text said (Some fault.Digit) g shows = own_fault mask text fault.Digit g shows.0
shown_fault upstream mask line text said (Some fault.OutOfMemory) g shows = absurd shows.0
shown_fault upstream mask line text said (Some fault.Write) g shows = absurd shows.0
shown_fault upstream mask line text said (Some fault.Direction) g shows = absurd shows.0
