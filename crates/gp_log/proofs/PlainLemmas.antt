-- A code of 26 digits with nothing between them.
use Rattle.std.proofs.Common.{◌≡◌, ℕ, ◌+◌, ◌*◌, List, [], ◌∷◌, ◌++◌, length, Option, None, Some, Ok, refl, sym, ap, subst, ◌∙◌, ◌⊎◌, inl, inr, arith, append_assoc}
use Rattle.std.proofs.lemmas.List.{append-nil}
use Rattle.hex.specs.Hex.{decode_pairs, decode_sized, hex_digit_value, pair_value}
use Rattle.hex.proofs.HexLemmas.{decode_pairs-ok, decode_sized-ok}
use Rattle.gp_lines.proofs.ReadLemmas.{either, ok_same}
use Rattle.gp_log.specs.Code.{octet_at, octets_at, code_at}
use Rattle.gp_log.proofs.DigitLemmas.{no_prefix, digits_read, unmarked}

some_or_none : (o : Option ℕ) → ((x : ℕ) × (o ≡ Some x)) ⊎ (o ≡ None)
some_or_none None = inr refl
some_or_none (Some x) = inl (x, refl)

-- both digits of an octet
record ArePair (high low byte : ℕ) : Type 0 where
  first : ℕ
  second : ℕ
  one : hex_digit_value high ≡ Some first
  other : hex_digit_value low ≡ Some second
  value : first * 16 + second ≡ byte

pair_back : (high low i byte : ℕ) → pair_value high low i ≡ Ok byte → ArePair high low byte
pair_back high low i byte h =
    elim (some_or_none (hex_digit_value high)) [
      | inr none ↦ absurd (cc (rw none at h))
      | inl first ↦
          elim (some_or_none (hex_digit_value low)) [
            | inr none ↦ absurd (cc (rw (first.1, none) at h))
            | inl second ↦ record {
              first = first.0;
              second = second.0;
              one = first.1;
              other = second.1;
              value = ok_same (first.0 * 16 + second.0) byte (rw (first.1, second.1) at h);
            }
          ]
    ]

-- the first octet, and those behind it
record AreBegun (i high low : ℕ) (digits octets : List ℕ) : Type 0 where
  byte : ℕ
  bytes : List ℕ
  pair : pair_value high low i ≡ Ok byte
  others : decode_pairs (i + 2) digits ≡ Ok bytes
  whole : byte ∷ bytes ≡ octets

pairs_begun : (i high low : ℕ) (digits octets : List ℕ) → decode_pairs i (high ∷ low ∷ digits) ≡ Ok octets → AreBegun i high low digits octets
unfolding decode_pairs
pairs_begun i high low digits octets h =
    elim (either (pair_value high low i)) [
      | inr wrong ↦ absurd (cc (rw wrong.1 at h))
      | inl byte ↦
          elim (either (decode_pairs (i + 2) digits)) [
            | inr wrong ↦ absurd (cc (rw (byte.1, wrong.1) at h))
            | inl bytes ↦ record {
              byte = byte.0;
              bytes = bytes.0;
              pair = byte.1;
              others = bytes.1;
              whole = ok_same (byte.0 ∷ bytes.0) octets (rw (byte.1, bytes.1) at h);
            }
          ]
    ]

no_pairs : (i : ℕ) (octets : List ℕ) → decode_pairs i [] ≡ Ok octets → [] ≡ octets
unfolding decode_pairs
no_pairs i octets h = ok_same [] octets h

half_pair : (i digit : ℕ) (octets : List ℕ) → decode_pairs i (digit ∷ []) ≡ Ok octets → ⊥
unfolding decode_pairs
half_pair i digit octets h = cc h

pair_read : (high low byte : ℕ) (text : List ℕ) → ArePair high low byte → octet_at (high ∷ low ∷ text) ≡ Some (byte, text)
pair_read high low byte text p =
    digits_read high low p.first p.second text p.one p.other ∙ ap (λ (n : ℕ). Some (n, text)) p.value

pairs_read : (i : ℕ) (before digits octets rest : List ℕ) → decode_pairs i digits ≡ Ok octets
    → octets_at (length octets) before (digits ++ rest) ≡ Some (before ++ octets, rest)
pairs_read i before [] octets rest h =
    let none = no_pairs i octets h in
    subst (λ (t : List ℕ). octets_at (length t) before rest ≡ Some (before ++ t, rest)) none (ap (λ (t : List ℕ). Some (t, rest)) (sym (append-nil before)))
pairs_read i before (digit ∷ []) octets rest h = absurd (half_pair i digit octets h)
pairs_read i before (high ∷ low ∷ digits) octets rest h =
    let b = pairs_begun i high low digits octets h in
    let p = pair_back high low i b.byte b.pair in
    let one = ap octet_at (unmarked high p.first (low ∷ (digits ++ rest)) p.one) ∙ pair_read high low b.byte (digits ++ rest) p in
    subst (λ (t : List ℕ). octets_at (length t) before (high ∷ low ∷ (digits ++ rest)) ≡ Some (before ++ t, rest)) b.whole (
    rw one (
    pairs_read (i + 2) (before ++ b.byte ∷ []) digits b.bytes rest b.others
    ∙ ap (λ (t : List ℕ). Some (t, rest)) (append_assoc before (b.byte ∷ []) b.bytes)
    )
    )

code_begun : (high low : ℕ) (digits octets rest : List ℕ) → length (high ∷ low ∷ digits) ≡ 26 → decode_pairs 0 (high ∷ low ∷ digits) ≡ Ok octets
    → code_at (high ∷ low ∷ (digits ++ rest)) ≡ Some (octets, rest)
unfolding code_at
code_begun high low digits octets rest long h =
    let b = pairs_begun 0 high low digits octets h in
    let p = pair_back high low 0 b.byte b.pair in
    let all = (decode_pairs-ok 2 digits b.bytes b.others).1 in
    let twelve : length b.bytes ≡ 12 = omega (arith, all, long) in
    let one = ap octet_at (no_prefix high low p.second (digits ++ rest) p.other) ∙ pair_read high low b.byte (digits ++ rest) p in
    let others : octets_at 12 (b.byte ∷ []) (digits ++ rest) ≡ Some (b.byte ∷ b.bytes, rest) =
    ap (λ (n : ℕ). octets_at n (b.byte ∷ []) (digits ++ rest)) (sym twelve) ∙ pairs_read 2 (b.byte ∷ []) digits b.bytes rest b.others in
    rw one (others ∙ ap (λ (t : List ℕ). Some (t, rest)) b.whole)

plain_begun : (digits octets rest : List ℕ) → length digits ≡ 26 → decode_pairs 0 digits ≡ Ok octets → code_at (digits ++ rest) ≡ Some (octets, rest)
plain_begun [] octets rest long h = absurd (omega (arith, long))
plain_begun (digit ∷ []) octets rest long h = absurd (omega (arith, long))
plain_begun (high ∷ low ∷ digits) octets rest long h = code_begun high low digits octets rest long h

pairs_of : (digits octets : List ℕ) → length digits ≡ 26 → decode_sized digits 13 ≡ Ok octets → decode_pairs 0 digits ≡ Ok octets
pairs_of digits octets long h = rw long at h

-- they are read as the code
pub plain_read : (text digits rest octets : List ℕ) → text ≡ digits ++ rest → decode_sized digits 13 ≡ Ok octets → code_at text ≡ Some (octets, rest)
plain_read text digits rest octets is h =
    let long : length digits ≡ 26 = decode_sized-ok digits 13 octets h in
    ap code_at is ∙ plain_begun digits octets rest long (pairs_of digits octets long h)
