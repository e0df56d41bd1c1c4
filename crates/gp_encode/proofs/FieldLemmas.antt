-- The fields that `decode` writes are read back.
use Rattle.std.proofs.Common.{◌≡◌, ℕ, ◌*◌, ◌<◌, ◌≤◌, ◌^◌, true, false, Bool, List, [], ◌∷◌, ◌++◌, length, codes, Ok, refl, ap, ◌∙◌, inl, inr, arith, append_assoc}
use Rattle.std.specs.Prelude.{decimal}
use Rattle.std.proofs.lemmas.Bool.{cases_lt}
use Rattle.std.proofs.lemmas.Fmt.{decimal_is_IsNumeral}
use Rattle.std.proofs.lemmas.List.{get_or_past}
use Rattle.std.proofs.lemmas.List.Splits.{slice_split_at, slice_split_none}
use Rattle.std.proofs.lemmas.Bool.Decides.{nat_tests}
use Rattle.std.proofs.lemmas.List.Elements.{All-weaker}
use Rattle.std.proofs.lemmas.List.Sums.{AllPass-from_list_all}
use Rattle.std.specs.Char.{is_ascii_lowercase}
use Rattle.std.specs.List.{All, list_all}
use Rattle.hex.specs.Hex.{IsBytes, decode_sized, encode_lower}
use Rattle.hex.proofs.HexLemmas.{decode_of-encode_lower, decode_of-ok, decode_sized-twice}
use Rattle.gp_ploam.specs.declared.message.Serial.{Serial}
use Rattle.gp_serial.specs.Spelling.{Spells, text_of_serial}
use Rattle.gp_serial.proofs.TextLemmas.{Spells-text_of_serial}
use Rattle.gp_decode.specs.Message.{keep_text}
use Rattle.gp_lines.specs.Parts.{is_space, parts_of}
use Rattle.gp_lines.specs.Reading.{number_in, serial_in}
use Rattle.gp_lines.specs.Told.{AreOctets}
use Rattle.gp_lines.proofs.ReadLemmas.{number_back, serial_back}
use Rattle.gp_lines.proofs.TextLemmas.{IsPlain, hex_are_plain, serial_is_plain}
use Rattle.gp_lines.proofs.ToldLemmas.{unspaced}
use Rattle.gp_encode.specs.Fields.{next_body, next_keep, next_number, next_serial}

-- ---- parts

pub part_then : (part rest : List ℕ) → All IsPlain part → parts_of (part ++ 32 ∷ rest) ≡ part ∷ parts_of rest
unfolding parts_of
part_then part rest plain = slice_split_at is_space part 32 rest (unspaced part plain) refl

pub part_alone : (part : List ℕ) → All IsPlain part → parts_of part ≡ part ∷ []
unfolding parts_of
part_alone part plain = slice_split_none is_space part (unspaced part plain)

pub two_parts : (a b : List ℕ) → All IsPlain a → All IsPlain b → parts_of ((a ++ codes " ") ++ b) ≡ a ∷ b ∷ []
two_parts a b pa pb = ap parts_of (append_assoc a (codes " ") b) ∙ part_then a b pa ∙ ap (λ (ps : List (List ℕ)). a ∷ ps) (part_alone b pb)

pub three_parts : (a b c : List ℕ) → All IsPlain a → All IsPlain b → All IsPlain c → parts_of ((((a ++ codes " ") ++ b) ++ codes " ") ++ c) ≡ a ∷ b ∷ c ∷ []
three_parts a b c pa pb pc =
    ap parts_of (append_assoc ((a ++ codes " ") ++ b) (codes " ") c ∙ append_assoc (a ++ codes " ") b (32 ∷ c) ∙ append_assoc a (codes " ") (b ++ 32 ∷ c))
    ∙ part_then a (b ++ 32 ∷ c) pa ∙ ap (λ (ps : List (List ℕ)). a ∷ ps) (part_then b c pb ∙ ap (λ (ps : List (List ℕ)). b ∷ ps) (part_alone c pc))

pub four_parts : (a b c d : List ℕ) → All IsPlain a → All IsPlain b → All IsPlain c → All IsPlain d
    → parts_of ((((((a ++ codes " ") ++ b) ++ codes " ") ++ c) ++ codes " ") ++ d) ≡ a ∷ b ∷ c ∷ d ∷ []
four_parts a b c d pa pb pc pd =
    let last = c ++ 32 ∷ d in
    ap parts_of (
    append_assoc ((((a ++ codes " ") ++ b) ++ codes " ") ++ c) (codes " ") d
    ∙ append_assoc (((a ++ codes " ") ++ b) ++ codes " ") c (32 ∷ d)
    ∙ append_assoc ((a ++ codes " ") ++ b) (codes " ") last
    ∙ append_assoc (a ++ codes " ") b (32 ∷ last)
    ∙ append_assoc a (codes " ") (b ++ 32 ∷ last)
    )
    ∙ part_then a (b ++ 32 ∷ last) pa
    ∙ ap (λ (ps : List (List ℕ)). a ∷ ps) (part_then b last pb ∙ ap (λ (ps : List (List ℕ)). b ∷ ps) (part_then c d pc ∙ ap (λ (ps : List (List ℕ)). c ∷ ps) (part_alone d pd)))

-- ---- fields

-- a small letter
abbrev is_letter : ℕ → Bool
is_letter octet = is_ascii_lowercase octet

letter_plain : (octet : ℕ) → is_letter octet ≡ true → IsPlain octet
letter_plain octet h = (grind (arith, nat_tests, h), grind (arith, nat_tests, h), grind (arith, nat_tests, h))

word_plain : (word : List ℕ) → list_all is_letter word ≡ true → All IsPlain word
word_plain word letters = All-weaker (λ o. is_letter o ≡ true) IsPlain letter_plain word (AllPass-from_list_all is_letter word letters)

bytes_of : (octets : List ℕ) → All (λ octet. octet < 256) octets → IsBytes octets
bytes_of octets all = λ i.
    elim (cases_lt i (length octets)) [
      | inl within ↦ all i 0 within
      | inr past ↦ let none = get_or_past octets i 0 past in omega (arith, none)
    ]

pub serial_spelled : (serial : Serial) → AreOctets 8 serial.0 → Spells (text_of_serial serial) serial
serial_spelled serial octets = Spells-text_of_serial serial.0 octets.0 (bytes_of serial.0 octets.1)

pub serial_plain : (serial : Serial) → AreOctets 8 serial.0 → All IsPlain (text_of_serial serial)
serial_plain serial octets = serial_is_plain (text_of_serial serial) serial (serial_spelled serial octets)

pub body_plain : (body : List ℕ) → AreOctets 10 body → All IsPlain (encode_lower body)
body_plain body octets = hex_are_plain (encode_lower body) body (decode_of-encode_lower body (bytes_of body octets.1))

pub number_taken : (greatest number : ℕ) (parts : List (List ℕ)) → number ≤ greatest → number < 2 ^ 64 → next_number greatest (decimal number ∷ parts) ≡ Ok (number, parts)
unfolding next_number
number_taken greatest number parts within small =
    let zero : 0 ≤ number = omega arith in
    let read : number_in 0 greatest (decimal number) ≡ Ok number = number_back 0 greatest (decimal number) number (decimal_is_IsNumeral number small) zero within in
    rw read refl

pub serial_taken : (serial : Serial) (parts : List (List ℕ)) → AreOctets 8 serial.0 → next_serial (text_of_serial serial ∷ parts) ≡ Ok (serial, parts)
unfolding next_serial
serial_taken serial parts octets =
    let read : serial_in (text_of_serial serial) ≡ Ok serial = serial_back (text_of_serial serial) serial (serial_spelled serial octets) in
    rw read refl

body_read : (body : List ℕ) → AreOctets 10 body → decode_sized (encode_lower body) 10 ≡ Ok body
body_read body octets =
    let decoded = decode_of-encode_lower body (bytes_of body octets.1) in
    let long : length (encode_lower body) ≡ 2 * 10 = omega (arith, (decode_of-ok (encode_lower body) body decoded).2, octets.0) in
    decode_sized-twice (encode_lower body) 10 long ∙ decoded

pub body_taken : (body : List ℕ) (parts : List (List ℕ)) → AreOctets 10 body → next_body (encode_lower body ∷ parts) ≡ Ok (body, parts)
unfolding next_body
body_taken body parts octets =
    let read = body_read body octets in
    rw read refl

pub keep_taken : (keep : Bool) (parts : List (List ℕ)) → next_keep (keep_text keep ∷ parts) ≡ Ok (keep, parts)
unfolding next_keep
keep_taken true parts = refl
keep_taken false parts = refl

pub keep_plain : (keep : Bool) → All IsPlain (keep_text keep)
keep_plain true = word_plain (codes "keep") refl
keep_plain false = word_plain (codes "back") refl
