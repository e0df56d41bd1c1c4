-- The digits of octets.
use Rattle.std.proofs.Common.{◌≡◌, ℕ, ◌+◌, ◌*◌, ◌/◌, ◌%◌, ◌<◌, ◌≤◌, true, false, List, take, drop, length, get_or, Some, Result, Ok, Err, refl, sym, ◌∙◌, arith, slice_set}
use Rattle.std.proofs.lemmas.Bool.{false≢true}
use Rattle.std.proofs.lemmas.Bool.Decides.{nat_tests}
use Rattle.std.proofs.lemmas.List.{length-set}
use Rattle.std.proofs.lemmas.List.Sums.{AllPass-from_list_all, list_all-from_AllPass}
use Rattle.std.specs.Char.{is_ascii_hexdigit}
use Rattle.std.specs.List.{list_all}
use Rattle.std.specs.Result.{IsOk}
use Rattle.hex.specs.Hex.{decode_pairs, decode_sized, hex_digit_value, is_hex_digit, pair_value}
use Rattle.hex.specs.declared.error.FromHexError.{FromHexError}
use Rattle.hex.proofs.HexLemmas.{IsOk-decode_sized}
use Rattle.hex.proofs.Pairs.{prepend, decode_step, decode_done, decode_sized-pairs}

-- the value of a digit: its low four bits, and nine more for a letter
pub digit_told : (digit : ℕ) → is_ascii_hexdigit digit ≡ true → (hex_digit_value digit ≡ Some (digit % 16 + digit / 64 * 9)) × (digit % 16 + digit / 64 * 9 < 16)
digit_told digit h = (grind (arith, nat_tests, h), grind (arith, nat_tests, h))

-- each of them is one
pub digit_at : (text : List ℕ) (i : ℕ) → list_all is_ascii_hexdigit text ≡ true → i < length text → is_ascii_hexdigit (get_or text i 0) ≡ true
digit_at text i h within = AllPass-from_list_all is_ascii_hexdigit text h i 0 within

pair_told : (high low i h l : ℕ) → hex_digit_value high ≡ Some h → hex_digit_value low ≡ Some l → pair_value high low i ≡ Ok (h * 16 + l)
pair_told high low i h l one other = rw (one, other) refl

-- the octets of the first pairs of digits
pub record AreRead (count : ℕ) (text octets : List ℕ) (i : ℕ) : Type 0 where
  pub long : length octets ≡ count
  pub read : decode_pairs 0 text ≡ prepend (take i octets) (decode_pairs (2 * i) (drop (2 * i) text))

pub pair_more : (count : ℕ) (text octets : List ℕ) (i h l : ℕ) → length text ≡ 2 * count → i < count → hex_digit_value (get_or text (2 * i) 0) ≡ Some h
    → hex_digit_value (get_or text (2 * i + 1) 0) ≡ Some l → AreRead count text octets i → AreRead count text (slice_set octets i (h * 16 + l)) (i + 1)
pair_more count text octets i h l long within high low a = record {
  long = length-set _ _ _ ∙ a.long;
  read = decode_step text octets i (h * 16 + l) (omega arith) (omega (arith, a.long)) (pair_told (get_or text (2 * i) 0) (get_or text (2 * i + 1) 0) (2 * i) h l high low) a.read;
}

pub pairs_end : (count : ℕ) (text octets : List ℕ) (i : ℕ) → length text ≡ 2 * count → count ≤ i → AreRead count text octets i → decode_sized text count ≡ Ok octets
pairs_end count text octets i long end a =
    decode_sized-pairs text count (omega arith) (omega arith) ∙ decode_done text octets i (omega (arith, a.long)) (omega arith) a.read

-- ---- other texts

refused : (r : Result (List ℕ) FromHexError) → (IsOk r → ⊥) → (fault : FromHexError) × (r ≡ Err fault)
refused (Ok octets) none = absurd (none refl)
refused (Err fault) none = (fault, refl)

-- another length
pub no_octets_length : (count : ℕ) (text : List ℕ) → (length text ≡ 2 * count → ⊥) → (fault : FromHexError) × (decode_sized text count ≡ Err fault)
no_octets_length count text other = refused (decode_sized text count) (λ is. other ((IsOk-decode_sized text count).0 is).0)

hex_digit_same : (octet : ℕ) → is_hex_digit octet ≡ true → is_ascii_hexdigit octet ≡ true
hex_digit_same octet h = grind (arith, nat_tests, h)

-- an octet that is no digit
pub no_octets_digits : (count : ℕ) (text : List ℕ) → list_all is_ascii_hexdigit text ≡ false → (fault : FromHexError) × (decode_sized text count ≡ Err fault)
no_octets_digits count text other =
    refused (decode_sized text count) (
    λ is.
    let all = ((IsOk-decode_sized text count).0 is).1 in
    false≢true (sym other ∙ list_all-from_AllPass is_ascii_hexdigit text (λ k d within. hex_digit_same (get_or text k d) (all k d within)))
    )
