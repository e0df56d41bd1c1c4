-- The text of octets in hexadecimal digits is ASCII, and what a text of digits is read as.
use Rattle.std.proofs.Common.{◌≡◌, ◌≢◌, ℕ, ◌<◌, ◌%◌, true, List, length, Ok, Err, refl, sym, ap, ◌∙◌, arith, nat_lt}
use Rattle.std.specs.List.{list_all}
use Rattle.hex.specs.declared.error.FromHexError.{FromHexError}
use Rattle.std.proofs.lemmas.Bool.Decides.{nat_tests}
use Rattle.std.proofs.lemmas.List.Elements.{All-weaker}
use Rattle.std.proofs.lemmas.List.Sums.{AllPass-from_list_all, list_all-from_AllPass}
use Rattle.std.proofs.lemmas.Str.Ascii.{IsAscii-from_all}
use Rattle.std.specs.Str.{IsAscii}
use Rattle.hex.specs.Hex.{decode_of, decode_sized, encode_lower, is_hex_digit, lower_digits}
use Rattle.hex.proofs.HexLemmas.{IsAscii-encode_with, decode_of-digits, decode_of-ok, decode_sized-ok, decode_sized-twice}
use Rattle.gp_decode.specs.LineText.{code_digits}
use Rattle.gp_decode.proofs.LawLemmas.{digits_stay}

pub IsAscii-encode_lower : (octets : List ℕ) → IsAscii (encode_lower octets)
IsAscii-encode_lower octets =
    IsAscii-encode_with lower_digits octets (
    IsAscii-from_all lower_digits (All-weaker (λ c. nat_lt c 128 ≡ true) (λ c. c < 128) (λ c below. grind (arith, nat_tests)) lower_digits (AllPass-from_list_all (λ c. nat_lt c 128) lower_digits refl))
    )

-- a text of digits that is not read as thirteen octets has another length
pub other_length : (text : List ℕ) (e : FromHexError) → length text % 2 ≢ 1 → list_all is_hex_digit text ≡ true → decode_sized text 13 ≡ Err e
    → (length text % 2 ≡ 0) × (list_all is_hex_digit text ≡ true) × (length text ≢ 26)
other_length text e not_odd digits refused =
    let even : length text % 2 ≡ 0 = omega (arith, not_odd) in (
      even,
      digits,
      λ long.
          let read = decode_of-digits text even (AllPass-from_list_all is_hex_digit text digits) in
          let sized = decode_sized-twice text 13 long in
          cc (sym refused ∙ sized ∙ read.1),
    )

-- the thirteen octets of a text are those that its digits stand for
pub octets_spelled : (text code : List ℕ) → decode_sized text 13 ≡ Ok code → decode_of text ≡ Ok code
octets_spelled text code read = sym (decode_sized-twice text 13 (decode_sized-ok text 13 code read)) ∙ read

-- so are those that stand for them where nothing is passed over
pub octets_stay : (text code : List ℕ) → decode_sized text 13 ≡ Ok code → decode_of (code_digits text) ≡ Ok code
octets_stay text code read =
    let spelled = octets_spelled text code read in
    ap decode_of (digits_stay text (list_all-from_AllPass is_hex_digit text (decode_of-ok text code spelled).1)) ∙ spelled
