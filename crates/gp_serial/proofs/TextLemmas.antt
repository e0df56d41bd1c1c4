-- The texts of serial numbers: they are spellings, and of ASCII characters.
use Rattle.std.proofs.Common.{◌≡◌, ℕ, ◌+◌, ◌/◌, ◌%◌, ◌<◌, true, false, List, [], ◌∷◌, ◌++◌, length, take, drop, map, slice_index, inl, inr, Result, Ok, Err, refl, sym, ap, ◌∙◌, arith, length-drop, length-append, append_assoc, nat_lt}
use Rattle.std.specs.Prelude.{IsOk, OnOk}
use Rattle.std.proofs.Math.ListN.{get_or-map}
use Rattle.std.proofs.lemmas.Bool.{cases_Bool}
use Rattle.std.proofs.lemmas.Bool.Decides.{nat_tests}
use Rattle.std.proofs.lemmas.List.{take_at, length-take-le, get_or-drop}
use Rattle.std.proofs.lemmas.List.Elements.{All-weaker}
use Rattle.std.proofs.lemmas.List.Sums.{AllPass-from_list_all}
use Rattle.std.proofs.lemmas.Str.Ascii.{IsAscii-from_all}
use Rattle.std.specs.Char.{to_ascii_uppercase}
use Rattle.std.specs.List.{list_all}
use Rattle.std.specs.Str.{IsAscii}
use borrow.Rule.Slice.PartMut.{put_mid}
use Rattle.hex.specs.Hex.{decode_of, encode_with, encode_upper, lower_digits, upper_digits, IsBytes}
use Rattle.hex.proofs.HexLemmas.{decode_of-encode_upper, length-encode_with, IsAscii-encode_with}
use Rattle.gp_ploam.specs.declared.message.Serial.{Serial}
use Rattle.gp_serial.specs.Spelling.{Spells, SpellsByVendor, has_vendor_code, is_vendor_character, text_of_serial}
use Rattle.gp_serial.proofs.SpellingLemmas.{drop_four}

-- ---- digits in upper case

raised_digit : (k : ℕ) → to_ascii_uppercase (slice_index lower_digits k) ≡ slice_index upper_digits k
raised_digit k = sym (get_or-map to_ascii_uppercase lower_digits k 0)

-- digits in lower case, raised
pub encode_lower-raised : (octets : List ℕ) → map to_ascii_uppercase (encode_with lower_digits octets) ≡ encode_with upper_digits octets
unfolding encode_with
encode_lower-raised [] = refl
encode_lower-raised (b ∷ rest) = λ i. raised_digit (b / 16) i ∷ raised_digit (b % 16) i ∷ encode_lower-raised rest i

-- a fact of what was written, where it was
pub written_if : {T E : Type 0} {P : Type 0} (r : Result T E) → OnOk r P → IsOk r → P
written_if (Ok x) holds ok = holds
written_if (Err e) holds ok = cc ok

-- ---- ASCII

pub IsAscii-encode_upper : (octets : List ℕ) → IsAscii (encode_upper octets)
IsAscii-encode_upper octets =
    IsAscii-encode_with upper_digits octets (
    IsAscii-from_all upper_digits (All-weaker (λ c. nat_lt c 128 ≡ true) (λ c. c < 128) (λ c below. grind (arith, nat_tests)) upper_digits (AllPass-from_list_all (λ c. nat_lt c 128) upper_digits refl))
    )

pub IsAscii-vendor : (vendor : List ℕ) → list_all is_vendor_character vendor ≡ true → IsAscii vendor
IsAscii-vendor vendor characters =
    IsAscii-from_all vendor (All-weaker (λ c. is_vendor_character c ≡ true) (λ c. c < 128) (λ c letter. grind (arith, nat_tests)) vendor (AllPass-from_list_all is_vendor_character vendor characters))

-- ---- the text of a vendor code and digits, as it is written

pub text_written : (vendor digits prefix : List ℕ) → length vendor ≡ 4 → length digits ≡ 8 → prefix ≡ vendor
    → take 12 (put_mid 4 8 (prefix ++ 0 ∷ 0 ∷ 0 ∷ 0 ∷ 0 ∷ 0 ∷ 0 ∷ 0 ∷ 0 ∷ 0 ∷ 0 ∷ 0 ∷ []) digits) ≡ vendor ++ digits
text_written vendor digits prefix four eight is_prefix =
    let zeros : List ℕ = 0 ∷ 0 ∷ 0 ∷ 0 ∷ 0 ∷ 0 ∷ 0 ∷ 0 ∷ 0 ∷ 0 ∷ 0 ∷ 0 ∷ [] in
    let long : length (vendor ++ digits) ≡ 12 = let len = length-append vendor digits in omega (arith, len, four, eight) in
    rw (is_prefix, take_at vendor zeros 4 four, drop_four vendor zeros four, ← append_assoc vendor digits (0 ∷ 0 ∷ 0 ∷ 0 ∷ []))
    (take_at (vendor ++ digits) (0 ∷ 0 ∷ 0 ∷ 0 ∷ []) 12 long)

-- ---- texts are spellings

text_of_serial-vendor : (serial : Serial) → has_vendor_code serial.0 ≡ true → text_of_serial serial ≡ take 4 serial.0 ++ encode_upper (drop 4 serial.0)
unfolding text_of_serial
text_of_serial-vendor serial code = rw code refl

text_of_serial-digits : (serial : Serial) → has_vendor_code serial.0 ≡ false → text_of_serial serial ≡ encode_upper serial.0
unfolding text_of_serial
text_of_serial-digits serial code = rw code refl

IsBytes-drop : (n : ℕ) (octets : List ℕ) → IsBytes octets → IsBytes (drop n octets)
IsBytes-drop n octets bytes i = rw (get_or-drop n octets i 0) (bytes (n + i))

spells_by_vendor : (octets : List ℕ) → length octets ≡ 8 → IsBytes octets → has_vendor_code octets ≡ true → SpellsByVendor (take 4 octets ++ encode_upper (drop 4 octets)) (record { 0 = octets })
spells_by_vendor octets eight bytes code =
    let vendor = take 4 octets in
    let digits = encode_upper (drop 4 octets) in
    let four : length vendor ≡ 4 = length-take-le 4 octets (omega (arith, eight)) in
    let same : take 4 (vendor ++ digits) ≡ vendor = take_at vendor digits 4 four in
    record {
      long =
          let all = length-append vendor digits in
          let some = length-encode_with upper_digits (drop 4 octets) in
          let rest = length-drop 4 octets in
          omega (arith, all, some, rest, four, eight);
      characters = ap (list_all is_vendor_character) same ∙ code;
      vendor = same;
      digits = ap decode_of (drop_four vendor digits four) ∙ decode_of-encode_upper (drop 4 octets) (IsBytes-drop 4 octets bytes);
    }

pub Spells-text_of_serial : (octets : List ℕ) → length octets ≡ 8 → IsBytes octets → Spells (text_of_serial (record { 0 = octets })) (record { 0 = octets })
Spells-text_of_serial octets eight bytes =
    elim (cases_Bool (has_vendor_code octets)) [
      | inl code ↦ rw (text_of_serial-vendor (record { 0 = octets }) code) (inl (spells_by_vendor octets eight bytes code))
      | inr other ↦
          rw (text_of_serial-digits (record { 0 = octets }) other) (
          inr record {
            long = let len = length-encode_with upper_digits octets in omega (arith, len, eight);
            digits = decode_of-encode_upper octets bytes;
          }
          )
    ]
