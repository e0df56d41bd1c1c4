-- A text has one first fault, and none where it says a line.
use Rattle.std.proofs.Common.{◌≡◌, ℕ, Bool, true, false, List, [], length, inl, inr, Result, Ok, Err, refl, sym, ap, subst, ◌∙◌, arith}
use Rattle.std.specs.Prelude.{◌↔◌}
use Rattle.std.proofs.lemmas.Bool.{false≢true}
use Rattle.std.proofs.lemmas.List.Sums.{list_all-from_AllPass}
use Rattle.hex.specs.Hex.{decode_of, is_hex_digit}
use Rattle.hex.proofs.HexLemmas.{decode_of-ok}
use Rattle.gp_ploam.specs.declared.check.Mask.{Mask}
use Rattle.gp_decode.specs.declared.fault.DecodeFault.{DecodeFault}
use Rattle.gp_decode.specs.declared.fault.DecodeFault.TheVariants as fault
use Rattle.gp_ploam.specs.Mask.{mask_value}
use Rattle.gp_ploam.specs.Row.{HasRightCheck}
use Rattle.gp_decode.specs.Line.{HasDecodeFault, IsOfText, LacksLine, SaysIn}

-- the code of a text that says a line, with its check octet
pub code_said : (names upstream : Bool) (mask : Mask) (text line : List ℕ) → SaysIn names upstream mask text line
    → (code : List ℕ) × (decode_of text ≡ Ok code) × (length code ≡ 13) × HasRightCheck code (mask_value mask)
code_said names true mask text line s = (s.code, s.spelled, s.said.1.1.long, s.said.1.1.check)
code_said names false mask text line s = (s.code, s.spelled, s.said.1.1.long, s.said.1.1.check)

-- the octets read, or none
abbrev octets_in : {E : Type 0} → Result (List ℕ) E → List ℕ
octets_in (Ok octets) = octets
octets_in (Err e) = []

-- a text of thirteen octets in digits has no fault but a wrong check octet
pub fault_of_code : (mask : Mask) (text code : List ℕ) (f : DecodeFault) → decode_of text ≡ Ok code → length code ≡ 13
    → HasDecodeFault mask text f → f ≡ fault.Crc
fault_of_code mask text code fault.Length spelled long (inl odd) =
    let digits = decode_of-ok text code spelled in
    let even = digits.0 in
    let neither : ⊥ = omega (arith, even, odd) in
    absurd neither
fault_of_code mask text code fault.Length spelled long (inr other) =
    let digits = decode_of-ok text code spelled in
    let size = digits.2 in
    absurd (other.2 (omega (arith, size, long)))
fault_of_code mask text code fault.Digit spelled long h =
    let digits = decode_of-ok text code spelled in
    absurd (false≢true (sym h.1 ∙ list_all-from_AllPass is_hex_digit text digits.1))
fault_of_code mask text code fault.Crc spelled long h = refl
fault_of_code mask text code fault.OutOfMemory spelled long h = absurd h
fault_of_code mask text code fault.Write spelled long h = absurd h
fault_of_code mask text code fault.Direction spelled long h = absurd h

-- a text that says a line has no fault
pub fault_of_said : (names upstream : Bool) (mask : Mask) (text line : List ℕ) (f : DecodeFault) → SaysIn names upstream mask text line → HasDecodeFault mask text f → ⊥
fault_of_said names upstream mask text line f s h =
    let known = code_said names upstream mask text line s in
    right_and_wrong mask text known.0 known.1 known.3 (subst (HasDecodeFault mask text) (fault_of_code mask text known.0 f known.1 known.2 h) h)
  where
    right_and_wrong : (mask : Mask) (text code : List ℕ) → decode_of text ≡ Ok code → HasRightCheck code (mask_value mask) → HasDecodeFault mask text fault.Crc → ⊥
    right_and_wrong mask text code spelled right h =
        h.3 (subst (λ (c : List ℕ). HasRightCheck c (mask_value mask)) (ap octets_in (sym spelled ∙ h.1)) right)

-- a text has one first fault
pub one_fault : (mask : Mask) (text : List ℕ) (f g : DecodeFault) → HasDecodeFault mask text f → HasDecodeFault mask text g → f ≡ g
one_fault mask text fault.Crc g h k = sym (fault_of_code mask text h.0 g h.1 h.2 k)
one_fault mask text fault.Length fault.Length h k = refl
one_fault mask text fault.Length fault.Digit (inl odd) k = let even = k.0 in let neither : ⊥ = omega (arith, even, odd) in absurd neither
one_fault mask text fault.Length fault.Digit (inr other) k = absurd (false≢true (sym k.1 ∙ other.1))
one_fault mask text fault.Length fault.Crc h k = fault_of_code mask text k.0 fault.Length k.1 k.2 h
one_fault mask text fault.Digit fault.Digit h k = refl
one_fault mask text fault.Digit fault.Length h (inl odd) = let even = h.0 in let neither : ⊥ = omega (arith, even, odd) in absurd neither
one_fault mask text fault.Digit fault.Length h (inr other) = absurd (false≢true (sym h.1 ∙ other.1))
one_fault mask text fault.Digit fault.Crc h k = fault_of_code mask text k.0 fault.Digit k.1 k.2 h
one_fault mask text fault.OutOfMemory g h k = absurd h
one_fault mask text fault.Write g h k = absurd h
one_fault mask text fault.Direction g h k = absurd h
one_fault mask text f fault.OutOfMemory h k = absurd k
one_fault mask text f fault.Write h k = absurd k
one_fault mask text f fault.Direction h k = absurd k

-- the fault answered
abbrev fault_in : Result (Unit {0}) DecodeFault → DecodeFault
fault_in (Ok u) = fault.Write
fault_in (Err f) = f

abbrev failing : DecodeFault → Result (Unit {0}) DecodeFault
failing f = Err f

pub own_fault : (mask : Mask) (text : List ℕ) (e f : DecodeFault) → HasDecodeFault mask text e → (failing e ≡ failing f) ↔ HasDecodeFault mask text f
own_fault mask text e f has = (
  λ same. subst (HasDecodeFault mask text) (ap fault_in same) has,
  λ h. ap failing (one_fault mask text e f has h),
)

-- where the text says a line, a fault that is none of the text's is not its fault
pub foreign_fault : (names upstream : Bool) (mask : Mask) (text line : List ℕ) (e f : DecodeFault) → SaysIn names upstream mask text line → IsOfText f → (IsOfText e → ⊥)
    → (failing e ≡ failing f) ↔ HasDecodeFault mask text f
foreign_fault names upstream mask text line e f s own foreign = (
  λ same. absurd (foreign (subst IsOfText (sym (ap fault_in same)) own)),
  λ h. absurd (fault_of_said names upstream mask text line f s h),
)

-- what is answered where there is no line is the text's fault
pub fault_without_line : (upstream : Bool) (mask : Mask) (text : List ℕ) (e f : DecodeFault) → LacksLine upstream mask text e → IsOfText f
    → (failing e ≡ failing f) ↔ HasDecodeFault mask text f
fault_without_line upstream mask text fault.Length f lacks own = own_fault mask text fault.Length f lacks
fault_without_line upstream mask text fault.Digit f lacks own = own_fault mask text fault.Digit f lacks
fault_without_line upstream mask text fault.Crc f lacks own = own_fault mask text fault.Crc f lacks
fault_without_line upstream mask text fault.OutOfMemory f lacks own = foreign_fault false upstream mask text lacks.0 fault.OutOfMemory f lacks.1 own (λ x. x)
fault_without_line upstream mask text fault.Write f lacks own = absurd lacks
fault_without_line upstream mask text fault.Direction f lacks own = absurd lacks

-- what is answered where there is a line is no fault
pub no_fault_with_line : (names upstream : Bool) (mask : Mask) (text line : List ℕ) (f : DecodeFault) → SaysIn names upstream mask text line
    → (◌≡◌ {A = Result (Unit {0}) DecodeFault} (Ok tt) (Err f)) ↔ HasDecodeFault mask text f
no_fault_with_line names upstream mask text line f s = (
  λ same. cc same,
  λ h. absurd (fault_of_said names upstream mask text line f s h),
)
