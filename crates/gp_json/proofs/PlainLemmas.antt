-- Texts in which each octet stands for itself: digits, and texts that are checked octet by octet.
use Rattle.std.proofs.Common.{◌≡◌, ℕ, ◌<◌, ◌≤◌, ◌^◌, true, List, [], ◌∷◌, Ok, refl, sym, ◌∙◌, arith, decimal, inl, inr}
use Rattle.std.proofs.lemmas.Bool.{cases_Bool}
use Rattle.std.proofs.lemmas.Bool.Decides.{nat_tests}
use Rattle.std.proofs.lemmas.Fmt.{decimal_is_IsNumeral}
use Rattle.std.proofs.lemmas.Str.Parse.{digit_from_value}
use Rattle.std.proofs.lemmas.List.Elements.{All-weaker}
use Rattle.std.proofs.lemmas.List.Sums.{AllPass-from_list_all, list_all-from_AllPass}
use Rattle.std.specs.Char.{is_ascii_hexdigit}
use Rattle.std.specs.List.{flat_map, list_all}
use Rattle.std.specs.Str.Parse.{AllDigits}
use Rattle.hex.specs.Hex.{decode_sized}
use Rattle.gp_code.proofs.PairLemmas.{no_octets_digits}
use Rattle.gp_json.specs.Spelling.{escaped}
use Rattle.gp_json.specs.Runs.{is_plain}
use Rattle.gp_json.proofs.RunsLemmas.{spelled_plain}

-- ---- decimal digits

digit_plain : (c : ℕ) → 48 ≤ c → c ≤ 57 → is_plain c ≡ true
digit_plain c low high = grind (arith, nat_tests)

digits_plain : (digits : List ℕ) → AllDigits 10 digits → list_all is_plain digits ≡ true
digits_plain [] d = refl
digits_plain (c ∷ cs) d =
    let value = digit_from_value c d.0 in
    rw (digit_plain c (omega (arith, value)) (omega (arith, value)), digits_plain cs d.1) refl

-- a number in digits is spelled as it is
pub number_spelled : (n : ℕ) → n < 2 ^ 64 → flat_map escaped (decimal n) ≡ decimal n
number_spelled n small = spelled_plain (decimal n) (digits_plain (decimal n) (decimal_is_IsNumeral n small).0.1)

-- ---- hexadecimal digits

hex_plain : (c : ℕ) → is_ascii_hexdigit c ≡ true → is_plain c ≡ true
hex_plain c digit = grind (arith, nat_tests)

-- those of octets
pub code_plain : (count : ℕ) (text octets : List ℕ) → decode_sized text count ≡ Ok octets → list_all is_plain text ≡ true
code_plain count text octets read =
    elim (cases_Bool (list_all is_ascii_hexdigit text)) [
      | inl all ↦ list_all-from_AllPass is_plain text (All-weaker (λ c. is_ascii_hexdigit c ≡ true) (λ c. is_plain c ≡ true) hex_plain text (AllPass-from_list_all is_ascii_hexdigit text all))
      | inr other ↦ let none = no_octets_digits count text other in absurd (cc (sym read ∙ none.1))
    ]
