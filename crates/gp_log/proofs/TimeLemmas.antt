-- A time in frames is read back.
use Rattle.std.proofs.Common.{◌≡◌, ℕ, ◌+◌, ◌*◌, ◌<◌, ◌^◌, Bool, true, false, List, [], ◌∷◌, Some, Ok, refl, ap, arith}
use Rattle.std.specs.Prelude.{decimal}
use Rattle.std.proofs.lemmas.Bool.{lt-ltb}
use Rattle.std.proofs.lemmas.Bool.Decides.{nat_tests}
use Rattle.std.proofs.lemmas.Fmt.{decimal_is_IsNumeral}
use Rattle.std.proofs.lemmas.List.Elements.{All-head, All-tail, All-weaker}
use Rattle.std.specs.Char.{is_ascii_digit}
use Rattle.std.specs.List.{All}
use Rattle.gp_log.specs.declared.fault.LogFault.TheVariants as fault
use Rattle.gp_log.specs.declared.time.TimeUnit.TheVariants.{Frames}
use Rattle.gp_lines.specs.Spelling.{SpellsNumber}
use Rattle.gp_lines.proofs.ReadLemmas.{number_back}
use Rattle.gp_log.specs.Fields.{before, «from», number_or, number_in}
use Rattle.gp_log.specs.Time.{frame_time, is_of_unit, is_point, unit_of, fitting, time_in, time_of}
use Rattle.gp_log.proofs.DigitLemmas.{numeral_digits}

abbrev HasNone : (ℕ → Bool) → List ℕ → Type 0
HasNone is text = All (λ octet. is octet ≡ false) text

all_before : (is : ℕ → Bool) (text : List ℕ) → HasNone is text → before is text ≡ text
all_before is [] none = refl
all_before is (octet ∷ text) none =
    rw (All-head (λ (o : ℕ). is o ≡ false) octet text none)
    (ap (λ (t : List ℕ). octet ∷ t) (all_before is text (All-tail (λ (o : ℕ). is o ≡ false) octet text none)))

none_from : (is : ℕ → Bool) (text : List ℕ) → HasNone is text → «from» is text ≡ []
none_from is [] none = refl
none_from is (octet ∷ text) none =
    rw (All-head (λ (o : ℕ). is o ≡ false) octet text none) (none_from is text (All-tail (λ (o : ℕ). is o ≡ false) octet text none))

no_unit : (octet : ℕ) → is_ascii_digit octet ≡ true → is_of_unit octet ≡ false
no_unit octet h = grind (arith, nat_tests, h)

no_point : (octet : ℕ) → is_ascii_digit octet ≡ true → is_point octet ≡ false
no_point octet h = grind (arith, nat_tests, h)

fits : (time : ℕ) → time < 2 ^ 64 → fitting (time + 0) ≡ Ok time
fits time small =
    let same : time + 0 ≡ time = omega arith in
    rw same (rw (lt-ltb time 18446744073709551616 (omega (arith, small))) refl)

spelled_read : (digits : List ℕ) (number : ℕ) → SpellsNumber digits number → number < 2 ^ 64 → number_in fault.Time 18446744073709551615 digits ≡ Ok number
spelled_read digits number spelled small =
    ap (number_or fault.Time) (number_back 0 18446744073709551615 digits number spelled (omega arith) (omega (arith, small)))

in_frames : (digits : List ℕ) (frames : ℕ) → SpellsNumber digits frames → frames < 2 ^ 64 → frames * frame_time < 2 ^ 64
    → time_in Frames digits ≡ Ok (frames * frame_time)
unfolding time_in
in_frames digits frames spelled small short =
    let none = All-weaker (λ o. is_ascii_digit o ≡ true) (λ o. is_point o ≡ false) no_point digits (numeral_digits digits spelled.0) in
    rw (all_before is_point digits none, none_from is_point digits none, spelled_read digits frames spelled small) (fits (frames * frame_time) short)

no_word : unit_of [] ≡ Some Frames
unfolding unit_of
no_word = refl

-- so many frames, however they are spelled
pub frames_spelled : (digits : List ℕ) (frames : ℕ) → SpellsNumber digits frames → frames < 2 ^ 64 → frames * frame_time < 2 ^ 64
    → time_of digits ≡ Ok (frames * frame_time)
frames_spelled digits frames spelled small short =
    let none = All-weaker (λ o. is_ascii_digit o ≡ true) (λ o. is_of_unit o ≡ false) no_unit digits (numeral_digits digits spelled.0) in
    rw (all_before is_of_unit digits none, none_from is_of_unit digits none, no_word) (in_frames digits frames spelled small short)

pub frames_read : (frames : ℕ) → frames < 2 ^ 64 → frames * frame_time < 2 ^ 64 → time_of (decimal frames) ≡ Ok (frames * frame_time)
frames_read frames small short = frames_spelled (decimal frames) frames (decimal_is_IsNumeral frames small) small short
