-- What is written is read back: numbers and codes.
use Rattle.std.proofs.Common.{◌≡◌, ◌==◌, ℕ, ◌+◌, ◌*◌, ◌/◌, ◌%◌, ◌<◌, ◌≤◌, ◌^◌, true, false, List, [], ◌∷◌, ◌++◌, length, slice_index, Some, Ok, refl, sym, ap, ◌∙◌, arith, append_assoc}
use Rattle.std.specs.Prelude.{decimal}
use Rattle.std.proofs.lemmas.Bool.Decides.{nat_tests}
use Rattle.std.proofs.lemmas.Fmt.{decimal_is_IsNumeral}
use Rattle.std.proofs.lemmas.List.{append-nil}
use Rattle.std.proofs.lemmas.List.Elements.{All-head, All-tail, All-weaker}
use Rattle.std.proofs.lemmas.List.Sums.{AllPass-from_list_all}
use Rattle.std.specs.Char.{is_ascii_digit}
use Rattle.std.specs.List.{All}
use Rattle.std.specs.Str.Parse.{IsNumeral}
use Rattle.hex.specs.Hex.{encode_with, encode_lower, hex_digit_value, lower_digits}
use Rattle.hex.proofs.HexLemmas.{IsDigits-lower_digits}
use Rattle.gp_lines.proofs.FieldLemmas.{own}
use Rattle.gp_lines.proofs.ReadLemmas.{number_back}
use Rattle.gp_log.specs.declared.fault.LogFault.{LogFault}
use Rattle.gp_log.specs.Fields.{before, «from», is_separator, trimmed, next, is_parted, is_nothing, number_or, number_in}
use Rattle.gp_log.specs.Code.{octet_at, octets_at, code_at, any_code_at, next_code, is_mark, without_mark, without_prefix}

-- ---- fields

-- octets of a field
abbrev pub AreOfField : List ℕ → Type 0
AreOfField text = All (λ octet. is_separator octet ≡ false) text

-- a field ends in front of this
before_end : (rest : List ℕ) → is_parted rest ≡ true → before is_separator rest ≡ []
before_end [] h = refl
before_end (octet ∷ rest) h = rw h refl

from_end : (rest : List ℕ) → is_parted rest ≡ true → «from» is_separator rest ≡ rest
from_end [] h = refl
from_end (octet ∷ rest) h = rw h refl

pub before_field : (word rest : List ℕ) → AreOfField word → is_parted rest ≡ true → before is_separator (word ++ rest) ≡ word
before_field [] rest all h = before_end rest h
before_field (octet ∷ word) rest all h =
    rw (All-head (λ (o : ℕ). is_separator o ≡ false) octet word all)
    (ap (λ (t : List ℕ). octet ∷ t) (before_field word rest (All-tail (λ (o : ℕ). is_separator o ≡ false) octet word all) h))

pub from_field : (word rest : List ℕ) → AreOfField word → is_parted rest ≡ true → «from» is_separator (word ++ rest) ≡ rest
from_field [] rest all h = from_end rest h
from_field (octet ∷ word) rest all h =
    rw (All-head (λ (o : ℕ). is_separator o ≡ false) octet word all)
    (from_field word rest (All-tail (λ (o : ℕ). is_separator o ≡ false) octet word all) h)

-- a text that begins with a field
pub trimmed_field : (octet : ℕ) (text : List ℕ) → is_separator octet ≡ false → trimmed (octet ∷ text) ≡ octet ∷ text
unfolding trimmed
trimmed_field octet text h = rw h refl

pub next_field : (octet : ℕ) (word rest : List ℕ) → AreOfField (octet ∷ word) → is_parted rest ≡ true
    → next ((octet ∷ word) ++ rest) ≡ ((octet ∷ word), rest)
unfolding next
next_field octet word rest all h =
    rw (trimmed_field octet (word ++ rest) (All-head (λ (o : ℕ). is_separator o ≡ false) octet word all))
    (rw (before_field (octet ∷ word) rest all h, from_field (octet ∷ word) rest all h) refl)

-- behind a space
pub next_behind : (text : List ℕ) → next (32 ∷ text) ≡ next text
unfolding next trimmed
next_behind text = refl

-- ---- numbers

digit_of_field : (octet : ℕ) → is_ascii_digit octet ≡ true → is_separator octet ≡ false
digit_of_field octet h = grind (arith, nat_tests, h)

pub numeral_digits : (text : List ℕ) → IsNumeral 10 text → All (λ octet. is_ascii_digit octet ≡ true) text
numeral_digits text is = AllPass-from_list_all is_ascii_digit text (own.from text is.1)

pub numeral_of_field : (text : List ℕ) → IsNumeral 10 text → AreOfField text
numeral_of_field text is =
    All-weaker (λ o. is_ascii_digit o ≡ true) (λ o. is_separator o ≡ false) digit_of_field text (numeral_digits text is)

pub numeral_next : (text rest : List ℕ) → IsNumeral 10 text → is_parted rest ≡ true → next (text ++ rest) ≡ (text, rest)
numeral_next [] rest is h = let some = is.0 in absurd (omega (arith, some))
numeral_next (octet ∷ text) rest is h = next_field octet text rest (numeral_of_field (octet ∷ text) is) h

-- a number is a field
pub number_next : (number : ℕ) (rest : List ℕ) → number < 2 ^ 64 → is_parted rest ≡ true → next (decimal number ++ rest) ≡ (decimal number, rest)
number_next number rest small h = numeral_next (decimal number) rest (decimal_is_IsNumeral number small).0 h

pub number_last : (number : ℕ) → number < 2 ^ 64 → next (decimal number) ≡ (decimal number, [])
number_last number small = ap next (sym (append-nil (decimal number))) ∙ number_next number [] small refl

-- it is read
pub number_read : (wrong : LogFault) (greatest number : ℕ) → number < 2 ^ 64 → number ≤ greatest → number_in wrong greatest (decimal number) ≡ Ok number
number_read wrong greatest number small most =
    ap (number_or wrong) (number_back 0 greatest (decimal number) number (decimal_is_IsNumeral number small) (omega arith) most)

numeral_something : (text : List ℕ) → IsNumeral 10 text → is_nothing text ≡ false
numeral_something [] is = let some = is.0 in absurd (omega (arith, some))
numeral_something (octet ∷ text) is = refl

pub number_something : (number : ℕ) → number < 2 ^ 64 → is_nothing (decimal number) ≡ false
number_something number small = numeral_something (decimal number) (decimal_is_IsNumeral number small).0

-- ---- codes

digit_is_of_field : (octet value : ℕ) → hex_digit_value octet ≡ Some value → is_separator octet ≡ false
digit_is_of_field octet value h = grind (arith, nat_tests, h)

digit_is_no_quote : (octet value : ℕ) → hex_digit_value octet ≡ Some value → (octet == 34) ≡ false
digit_is_no_quote octet value h = grind (arith, nat_tests, h)

digit_is_no_mark : (octet value : ℕ) → hex_digit_value octet ≡ Some value → is_mark octet ≡ false
digit_is_no_mark octet value h = grind (arith, nat_tests, h)

pub no_prefix : (octet other value : ℕ) (text : List ℕ) → hex_digit_value other ≡ Some value → without_prefix (octet ∷ other ∷ text) ≡ octet ∷ other ∷ text
no_prefix octet other value text h = grind (arith, nat_tests, h)

-- the digits of an octet
abbrev pub high_digit : ℕ → ℕ
high_digit octet = slice_index lower_digits (octet / 16)

abbrev pub low_digit : ℕ → ℕ
low_digit octet = slice_index lower_digits (octet % 16)

pub high_told : (octet : ℕ) → octet < 256 → hex_digit_value (high_digit octet) ≡ Some (octet / 16)
high_told octet small = IsDigits-lower_digits (octet / 16) (omega (arith, small))

pub low_told : (octet : ℕ) → hex_digit_value (low_digit octet) ≡ Some (octet % 16)
low_told octet = IsDigits-lower_digits (octet % 16) (omega arith)

pub digits_read : (high low first second : ℕ) (text : List ℕ) → hex_digit_value high ≡ Some first → hex_digit_value low ≡ Some second
    → octet_at (high ∷ low ∷ text) ≡ Some (first * 16 + second, text)
unfolding octet_at
digits_read high low first second text one other = rw (one, other) refl

octet_read : (octet : ℕ) (text : List ℕ) → octet < 256 → octet_at (high_digit octet ∷ low_digit octet ∷ text) ≡ Some (octet, text)
octet_read octet text small =
    let value : octet / 16 * 16 + octet % 16 ≡ octet = omega arith in
    digits_read (high_digit octet) (low_digit octet) (octet / 16) (octet % 16) text (high_told octet small) (low_told octet)
    ∙ ap (λ (n : ℕ). Some (n, text)) value

pub unmarked : (octet value : ℕ) (text : List ℕ) → hex_digit_value octet ≡ Some value → without_mark (octet ∷ text) ≡ octet ∷ text
unmarked octet value text h = rw (digit_is_no_mark octet value h) refl

abbrev pub AreSmall : List ℕ → Type 0
AreSmall octets = All (λ octet. octet < 256) octets

octets_read : (before octets rest : List ℕ) → AreSmall octets → octets_at (length octets) before (encode_lower octets ++ rest) ≡ Some (before ++ octets, rest)
unfolding encode_with
octets_read before [] rest all = ap (λ (t : List ℕ). Some (t, rest)) (sym (append-nil before))
octets_read before (octet ∷ octets) rest all =
    let small = All-head (λ (o : ℕ). o < 256) octet octets all in
    let behind = low_digit octet ∷ (encode_lower octets ++ rest) in
    let one = ap octet_at (unmarked (high_digit octet) (octet / 16) behind (high_told octet small)) ∙ octet_read octet (encode_lower octets ++ rest) small in
    rw one (
    octets_read (before ++ octet ∷ []) octets rest (All-tail (λ (o : ℕ). o < 256) octet octets all)
    ∙ ap (λ (t : List ℕ). Some (t, rest)) (append_assoc before (octet ∷ []) octets)
    )

trimmed_space : (text : List ℕ) → trimmed (32 ∷ text) ≡ trimmed text
unfolding trimmed
trimmed_space text = refl

code_begun : (octet : ℕ) (octets rest : List ℕ) → octet < 256 → AreSmall octets → length octets ≡ 12
    → code_at (high_digit octet ∷ low_digit octet ∷ (encode_lower octets ++ rest)) ≡ Some (octet ∷ octets, rest)
unfolding code_at
code_begun octet octets rest small all long =
    let behind = encode_lower octets ++ rest in
    let one = ap octet_at (no_prefix (high_digit octet) (low_digit octet) (octet % 16) behind (low_told octet)) ∙ octet_read octet behind small in
    let others : octets_at 12 (octet ∷ []) behind ≡ Some (octet ∷ octets, rest) =
    ap (λ (n : ℕ). octets_at n (octet ∷ []) behind) (sym long) ∙ octets_read (octet ∷ []) octets rest all in
    rw one others

unquoted : (octet : ℕ) (text : List ℕ) → (octet == 34) ≡ false → any_code_at (octet ∷ text) ≡ code_at (octet ∷ text)
unfolding any_code_at
unquoted octet text h = rw h refl

code_ended : (text octets rest : List ℕ) → any_code_at (trimmed text) ≡ Some (octets, rest) → is_parted rest ≡ true → next_code text ≡ Ok (octets, rest)
code_ended text octets rest read h = rw (read, h) refl

-- a code is read
pub code_next : (octets rest : List ℕ) → length octets ≡ 13 → AreSmall octets → is_parted rest ≡ true
    → next_code (32 ∷ (encode_lower octets ++ rest)) ≡ Ok (octets, rest)
unfolding encode_with
code_next [] rest long all h = absurd (omega (arith, long))
code_next (octet ∷ octets) rest long all h =
    let small = All-head (λ (o : ℕ). o < 256) octet octets all in
    let behind = low_digit octet ∷ (encode_lower octets ++ rest) in
    let kept = trimmed_space (high_digit octet ∷ behind)
    ∙ trimmed_field (high_digit octet) behind (digit_is_of_field (high_digit octet) (octet / 16) (high_told octet small)) in
    let plain = unquoted (high_digit octet) behind (digit_is_no_quote (high_digit octet) (octet / 16) (high_told octet small)) in
    code_ended (32 ∷ (high_digit octet ∷ behind)) (octet ∷ octets) rest
    (ap any_code_at kept ∙ plain ∙ code_begun octet octets rest small (All-tail (λ (o : ℕ). o < 256) octet octets all) (omega (arith, long))) h

pub code_last : (octets : List ℕ) → length octets ≡ 13 → AreSmall octets → next_code (32 ∷ encode_lower octets) ≡ Ok (octets, [])
code_last octets long all = ap (λ (t : List ℕ). next_code (32 ∷ t)) (sym (append-nil (encode_lower octets))) ∙ code_next octets [] long all refl
