-- The parts of a trace's lines: none of them has a space, and numbers are spelled as JSON spells them.
use Rattle.std.proofs.Common.{◌≡◌, ℕ, zero, suc, ◌<◌, ◌^◌, ◌==◌, ◌/◌, ◌%◌, Bool, true, false, List, [], ◌∷◌, ◌++◌, length, take, drop, get_or, slice_index, codes, refl, ap, inl, inr, arith, nat_lt}
use Rattle.std.specs.Prelude.{decimal, not}
use Rattle.std.proofs.lemmas.Bool.{cases_Bool, cases_lt}
use Rattle.std.proofs.lemmas.Bool.Decides.{nat_tests}
use Rattle.std.proofs.lemmas.Fmt.{decimal_digit, decimal_is_IsNumeral, decimal_nonempty, first_decimal}
use Rattle.std.proofs.lemmas.List.{get_or_past}
use Rattle.std.proofs.lemmas.List.Elements.{All-weaker, All-append, All-cons, All-nil}
use Rattle.std.proofs.lemmas.List.Sums.{AllPass-from_list_all, list_all-from_AllPass}
use Rattle.std.specs.Char.{is_ascii_digit}
use Rattle.std.specs.Fmt.{digits, digit_glyph, digits_onto}
use Rattle.std.specs.List.{All, list_all, flat_map}
use Rattle.hex.specs.Hex.{encode_with, encode_lower, encode_upper, lower_digits, upper_digits}
use Rattle.gp_ploam.specs.declared.message.Serial.{Serial}
use Rattle.gp_serial.specs.Spelling.{text_of_serial, has_vendor_code, is_vendor_character}
use Rattle.gp_trace.specs.Reply.{leaving_text, alloc_text, next_alloc_text, allocs_text}
use Rattle.gp_lines.specs.Parts.{is_space}
use Rattle.gp_lines.proofs.FieldLemmas.{own}
use Rattle.gp_json.specs.Spelling.{begins_well, is_digit, is_number}

-- no space
abbrev pub Whole : List ℕ → Type 0
Whole text = All (λ octet. is_space octet ≡ false) text

abbrev pub is_open : ℕ → Bool
is_open octet = not (is_space octet)

open_is : (octet : ℕ) → is_open octet ≡ true → is_space octet ≡ false
open_is octet h = grind (arith, nat_tests, h)

pub word_whole : (word : List ℕ) → list_all is_open word ≡ true → Whole word
word_whole word h = All-weaker (λ o. is_open o ≡ true) (λ o. is_space o ≡ false) open_is word (AllPass-from_list_all is_open word h)

both_whole : (first second : List ℕ) → Whole first → Whole second → Whole (first ++ second)
both_whole first second one other = All-append (λ (o : ℕ). is_space o ≡ false) first second one other

-- ---- numbers

glyph_whole : (d : ℕ) → is_space (digit_glyph false d) ≡ false
glyph_whole d =
    elim (cases_Bool (nat_lt d 10)) [
      | inl low ↦ rw low (grind (arith, nat_tests))
      | inr high ↦ rw high (grind (arith, nat_tests))
    ]

onto_whole : (k n : ℕ) (behind : List ℕ) → Whole behind → Whole (digits_onto k 10 false n behind)
onto_whole zero n behind h = h
onto_whole (suc k) n behind h =
    let more = All-cons (λ (o : ℕ). is_space o ≡ false) (digit_glyph false (n % 10)) behind (glyph_whole (n % 10)) h in
    elim (cases_Bool (n / 10 == 0)) [
      | inl last ↦ rw last more
      | inr others ↦ rw others (onto_whole k (n / 10) (digit_glyph false (n % 10) ∷ behind) more)
    ]

pub number_whole : (number : ℕ) → Whole (decimal number)
unfolding digits
number_whole number = onto_whole 64 number [] (All-nil (λ (o : ℕ). is_space o ≡ false))

digit_same : (octet : ℕ) → is_ascii_digit octet ≡ true → is_digit octet ≡ true
digit_same octet h = grind (arith, nat_tests, h)

all_digits : (number : ℕ) → number < 2 ^ 64 → list_all is_digit (decimal number) ≡ true
all_digits number small =
    list_all-from_AllPass is_digit (decimal number)
    (All-weaker (λ o. is_ascii_digit o ≡ true) (λ o. is_digit o ≡ true) digit_same (decimal number)
    (AllPass-from_list_all is_ascii_digit (decimal number) (own.from (decimal number) (decimal_is_IsNumeral number small).0.1)))

-- a text that begins with another octet than a zero
well_begun : (text : List ℕ) → 0 < length text → 48 < get_or text 0 0 → begins_well text ≡ true
well_begun [] some first = let neither : ⊥ = omega (arith, some) in absurd neither
well_begun (octet ∷ []) some first = refl
well_begun (octet ∷ next ∷ others) some first =
    let other : (octet == 48) ≡ false = grind (arith, nat_tests, first) in rw other refl

number_begun : (number : ℕ) → number < 2 ^ 64 → begins_well (decimal number) ≡ true
number_begun zero small = ap begins_well (decimal_digit 0 (omega arith))
number_begun (suc n) small = well_begun (decimal (suc n)) (decimal_nonempty (suc n) small) (first_decimal (suc n) (omega arith) small)

pub number_is : (number : ℕ) → number < 2 ^ 64 → is_number (decimal number) ≡ true
number_is number small = rw (number_begun number small) (all_digits number small)

-- ---- octets in digits

entry_whole : (table : List ℕ) (k : ℕ) → Whole table → is_space (slice_index table k) ≡ false
entry_whole table k all =
    elim (cases_lt k (length table)) [
      | inl within ↦ all k 0 within
      | inr past ↦ rw (get_or_past table k 0 past) refl
    ]

hex_whole : (table octets : List ℕ) → Whole table → Whole (encode_with table octets)
unfolding encode_with
hex_whole table [] all = All-nil (λ (o : ℕ). is_space o ≡ false)
hex_whole table (octet ∷ octets) all =
    All-cons (λ (o : ℕ). is_space o ≡ false) (slice_index table (octet / 16)) (slice_index table (octet % 16) ∷ encode_with table octets) (entry_whole table (octet / 16) all)
    (All-cons (λ (o : ℕ). is_space o ≡ false) (slice_index table (octet % 16)) (encode_with table octets) (entry_whole table (octet % 16) all) (hex_whole table octets all))

pub code_whole : (octets : List ℕ) → Whole (encode_lower octets)
code_whole octets = hex_whole lower_digits octets (word_whole lower_digits refl)

upper_whole : (octets : List ℕ) → Whole (encode_upper octets)
upper_whole octets = hex_whole upper_digits octets (word_whole upper_digits refl)

vendor_whole : (octet : ℕ) → is_vendor_character octet ≡ true → is_space octet ≡ false
vendor_whole octet h = grind (arith, nat_tests, h)

pub serial_whole : (serial : Serial) → Whole (text_of_serial serial)
unfolding text_of_serial
serial_whole serial =
    elim (cases_Bool (has_vendor_code serial.0)) [
      | inl code ↦
          rw code (
          both_whole (take 4 serial.0) (encode_upper (drop 4 serial.0))
          (All-weaker (λ o. is_vendor_character o ≡ true) (λ o. is_space o ≡ false) vendor_whole (take 4 serial.0) (AllPass-from_list_all is_vendor_character (take 4 serial.0) code))
          (upper_whole (drop 4 serial.0))
          )
      | inr other ↦ rw other (upper_whole serial.0)
    ]

-- ---- Alloc-IDs

leaving_whole : (leaving : Bool) → Whole (leaving_text leaving)
leaving_whole true = word_whole (codes "!") refl
leaving_whole false = All-nil (λ (o : ℕ). is_space o ≡ false)

alloc_whole : (alloc : ℕ × Bool) → Whole (alloc_text alloc)
alloc_whole alloc = both_whole (decimal alloc.0) (leaving_text alloc.1) (number_whole alloc.0) (leaving_whole alloc.1)

more_whole : (allocs : List (ℕ × Bool)) → Whole (flat_map next_alloc_text allocs)
more_whole [] = All-nil (λ (o : ℕ). is_space o ≡ false)
more_whole (alloc ∷ allocs) =
    both_whole (next_alloc_text alloc) (flat_map next_alloc_text allocs)
    (both_whole (codes ",") (alloc_text alloc) (word_whole (codes ",") refl) (alloc_whole alloc)) (more_whole allocs)

pub allocs_whole : (allocs : List (ℕ × Bool)) → Whole (allocs_text allocs)
allocs_whole [] = word_whole (codes "-") refl
allocs_whole (alloc ∷ allocs) = both_whole (alloc_text alloc) (flat_map next_alloc_text allocs) (alloc_whole alloc) (more_whole allocs)
