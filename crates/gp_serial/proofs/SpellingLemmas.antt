-- Spellings and the serial numbers that they are read as.
use Rattle.std.proofs.Common.{◌≡◌, ◌≢◌, ℕ, ◌*◌, ◌%◌, true, false, List, [], ◌∷◌, ◌++◌, length, take, drop, ◌⊎◌, inl, inr, Result, Ok, Err, refl, sym, ap, subst, ◌∙◌, arith, length-drop, length-append, append-nil}
use Rattle.std.proofs.lemmas.Bool.{cases_eq, cases_Bool, false≢true}
use Rattle.std.proofs.lemmas.List.{take-append-drop, take_at, length-take-le}
use Rattle.std.proofs.lemmas.List.Sums.{AllPass-from_list_all, list_all-from_AllPass}
use Rattle.std.proofs.Math.Seq.{drop-append_seam}
use Rattle.std.specs.List.{list_all}
use borrow.Rule.Slice.PartMut.{put_mid}
use Rattle.hex.specs.Hex.{decode_of, decode_sized, is_hex_digit}
use Rattle.hex.specs.declared.error.FromHexError.{FromHexError}
use Rattle.hex.proofs.HexLemmas.{decode_of-ok, decode_of-digits, decode_sized-twice}
use Rattle.gp_ploam.specs.declared.message.Serial.{Serial}
use Rattle.gp_serial.specs.declared.fault.SerialFault.{SerialFault}
use Rattle.gp_serial.specs.declared.fault.SerialFault.TheVariants as fault
use Rattle.gp_serial.specs.Spelling.{Spells, HasFault, has_vendor_code, serial_or_fault, serial_of_text}

abbrev pub Read : Type 0
Read = Result Serial SerialFault

abbrev pub Octets : Type 0
Octets = Result (List ℕ) FromHexError

-- the octets read, or none
abbrev octets_in : Read → List ℕ
octets_in (Ok serial) = serial.0
octets_in (Err f) = []

-- the fault found, or any
abbrev fault_in : Read → SerialFault
fault_in (Ok serial) = fault.OutOfMemory
fault_in (Err f) = f

-- octets as what is read
abbrev pub read_as : List ℕ → Read
read_as octets = Ok (record { 0 = octets })

pub drop_four : (prefix back : List ℕ) → length prefix ≡ 4 → drop 4 (prefix ++ back) ≡ back
drop_four prefix back four = subst (λ (n : ℕ). drop n (prefix ++ back) ≡ back) four (drop-append_seam prefix back)

-- ---- what is read, by the text's length

pub read-by_vendor : (text : List ℕ) → length text ≡ 12 → has_vendor_code text ≡ true → serial_of_text text ≡ serial_or_fault (take 4 text) (decode_of (drop 4 text))
unfolding serial_of_text
read-by_vendor text long characters = grind (arith, long, characters)

pub read-bad_vendor : (text : List ℕ) → length text ≡ 12 → has_vendor_code text ≡ false → serial_of_text text ≡ Err fault.Vendor
unfolding serial_of_text
read-bad_vendor text long characters = grind (arith, long, characters)

pub read-by_digits : (text : List ℕ) → length text ≡ 16 → serial_of_text text ≡ serial_or_fault [] (decode_of text)
unfolding serial_of_text
read-by_digits text long = grind (arith, long)

pub read-bad_length : (text : List ℕ) → length text ≢ 12 → length text ≢ 16 → serial_of_text text ≡ Err fault.Length
unfolding serial_of_text
read-bad_length text a b = grind (arith, a, b)

-- ---- spellings

-- what a vendor code and digits give
octets_given : (vendor : List ℕ) (octets : Octets) (serial : Serial) → serial_or_fault vendor octets ≡ Ok serial → (found : List ℕ) × (octets ≡ Ok found) × (vendor ++ found ≡ serial.0)
octets_given vendor (Ok octets) serial h = (octets, refl, ap octets_in h)
octets_given vendor (Err e) serial h = cc h

-- a spelling is read as its serial number
pub serial_of_text-Spells : (text : List ℕ) (serial : Serial) → Spells text serial → serial_of_text text ≡ Ok serial
serial_of_text-Spells text serial (inl by) =
    read-by_vendor text by.long by.characters
    ∙ ap (serial_or_fault (take 4 text)) by.digits
    ∙ ap read_as (ap (λ (prefix : List ℕ). prefix ++ drop 4 serial.0) by.vendor ∙ take-append-drop 4 serial.0)
serial_of_text-Spells text serial (inr by) = read-by_digits text by.long ∙ ap (serial_or_fault []) by.digits

-- a text is a spelling of what is read from it
pub Spells-serial_of_text : (text : List ℕ) (serial : Serial) → serial_of_text text ≡ Ok serial → Spells text serial
Spells-serial_of_text text serial h =
    elim (cases_eq (length text) 12) [
      | inl twelve ↦
          elim (cases_Bool (has_vendor_code text)) [
            | inl characters ↦
                let given = octets_given (take 4 text) (decode_of (drop 4 text)) serial (sym (read-by_vendor text twelve characters) ∙ h) in
                let four : length (take 4 text) ≡ 4 = length-take-le 4 text (omega (arith, twelve)) in
                inl record {
                  long = twelve;
                  characters = characters;
                  vendor = sym (take_at (take 4 text) given.0 4 four) ∙ ap (take 4) given.2;
                  digits = given.1 ∙ ap (λ (xs : List ℕ). Ok xs) (sym (drop_four (take 4 text) given.0 four) ∙ ap (drop 4) given.2);
                }
            | inr others ↦ cc (sym (read-bad_vendor text twelve others) ∙ h)
          ]
      | inr not_twelve ↦
          elim (cases_eq (length text) 16) [
            | inl sixteen ↦
                let given = octets_given [] (decode_of text) serial (sym (read-by_digits text sixteen) ∙ h) in
                inr record { long = sixteen; digits = given.1 ∙ ap (λ (xs : List ℕ). Ok xs) given.2 }
            | inr not_sixteen ↦ cc (sym (read-bad_length text not_twelve not_sixteen) ∙ h)
          ]
    ]

-- ---- faults

either : (octets : Octets) → ((found : List ℕ) × (octets ≡ Ok found)) ⊎ ((e : FromHexError) × (octets ≡ Err e))
either (Ok found) = inl (found, refl)
either (Err e) = inr (e, refl)

-- digits that don't all stand for a number are no octets
undecoded : (digits : List ℕ) → list_all is_hex_digit digits ≡ false → (e : FromHexError) × (decode_of digits ≡ Err e)
undecoded digits bad =
    elim (either (decode_of digits)) [
      | inl read ↦ absurd (false≢true (sym bad ∙ list_all-from_AllPass is_hex_digit digits (decode_of-ok digits read.0 read.1).1))
      | inr refused ↦ refused
    ]

-- digits that are no octets don't all stand for a number
bad_digit : (digits : List ℕ) (e : FromHexError) → length digits % 2 ≡ 0 → decode_of digits ≡ Err e → list_all is_hex_digit digits ≡ false
bad_digit digits e even refused =
    elim (cases_Bool (list_all is_hex_digit digits)) [
      | inl all ↦ cc (sym refused ∙ (decode_of-digits digits even (AllPass-from_list_all is_hex_digit digits all)).1)
      | inr some ↦ some
    ]

-- a vendor code and digits that give a fault
fault_given : (vendor : List ℕ) (octets : Octets) (f : SerialFault) → serial_or_fault vendor octets ≡ Err f → (e : FromHexError) × (octets ≡ Err e) × (fault.Digit ≡ f)
fault_given vendor (Ok octets) f h = cc h
fault_given vendor (Err e) f h = (e, refl, ap fault_in h)

-- the fault of a text is told
pub serial_of_text-HasFault : (text : List ℕ) (f : SerialFault) → HasFault text f → serial_of_text text ≡ Err f
serial_of_text-HasFault text fault.Length h = read-bad_length text h.0 h.1
serial_of_text-HasFault text fault.Vendor h = read-bad_vendor text h.0 h.1
serial_of_text-HasFault text fault.Digit (inl h) =
    read-by_vendor text h.0 h.1 ∙ ap (serial_or_fault (take 4 text)) (undecoded (drop 4 text) h.2).1
serial_of_text-HasFault text fault.Digit (inr h) = read-by_digits text h.0 ∙ ap (serial_or_fault []) (undecoded text h.1).1
serial_of_text-HasFault text fault.OutOfMemory h = absurd h

-- the fault told is the text's
pub HasFault-serial_of_text : (text : List ℕ) (f : SerialFault) → serial_of_text text ≡ Err f → HasFault text f
HasFault-serial_of_text text f h =
    elim (cases_eq (length text) 12) [
      | inl twelve ↦
          elim (cases_Bool (has_vendor_code text)) [
            | inl characters ↦
                let given = fault_given (take 4 text) (decode_of (drop 4 text)) f (sym (read-by_vendor text twelve characters) ∙ h) in
                let even : length (drop 4 text) % 2 ≡ 0 = let len = length-drop 4 text in omega (arith, len, twelve) in
                subst (HasFault text) given.2 (inl (twelve, characters, bad_digit (drop 4 text) given.0 even given.1))
            | inr others ↦ subst (HasFault text) (ap fault_in (sym (read-bad_vendor text twelve others) ∙ h)) (twelve, others)
          ]
      | inr not_twelve ↦
          elim (cases_eq (length text) 16) [
            | inl sixteen ↦
                let given = fault_given [] (decode_of text) f (sym (read-by_digits text sixteen) ∙ h) in
                let even : length text % 2 ≡ 0 = omega (arith, sixteen) in
                subst (HasFault text) given.2 (inr (sixteen, bad_digit text given.0 even given.1))
            | inr not_sixteen ↦ subst (HasFault text) (ap fault_in (sym (read-bad_length text not_twelve not_sixteen) ∙ h)) (not_twelve, not_sixteen)
          ]
    ]

-- ---- the parts that the code reads

-- a list of eight, each half written anew
pub halves_written : (prefix back first second : List ℕ) → length prefix ≡ 4 → length back ≡ 4 → first ≡ prefix → second ≡ back → put_mid 4 4 (first ++ 0 ∷ 0 ∷ 0 ∷ 0 ∷ []) second ≡ prefix ++ back
halves_written prefix back first second four four_more is_first is_second =
    let eight : length (prefix ++ 0 ∷ 0 ∷ 0 ∷ 0 ∷ []) ≡ 8 = let len = length-append prefix (0 ∷ 0 ∷ 0 ∷ 0 ∷ []) in omega (arith, len, four) in
    rw (is_first, is_second, take_at prefix (0 ∷ 0 ∷ 0 ∷ 0 ∷ []) 4 four, drop_four prefix (0 ∷ 0 ∷ 0 ∷ 0 ∷ []) four) (ap (λ (xs : List ℕ). prefix ++ xs) (append-nil back))

-- the octets of eight digits after a vendor code
pub read-number : (text digits : List ℕ) (octets : Octets) → length text ≡ 12 → has_vendor_code text ≡ true → digits ≡ drop 4 text → octets ≡ decode_sized digits 4 → serial_of_text text ≡ serial_or_fault (take 4 text) octets
read-number text digits octets twelve characters same decoded =
    let eight : length (drop 4 text) ≡ 2 * 4 = let len = length-drop 4 text in omega (arith, len, twelve) in
    read-by_vendor text twelve characters
    ∙ ap (serial_or_fault (take 4 text)) (sym (decode_sized-twice (drop 4 text) 4 eight) ∙ ap (λ (xs : List ℕ). decode_sized xs 4) (sym same) ∙ sym decoded)
