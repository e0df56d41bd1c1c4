-- What the words of a unit say.
use Rattle.std.proofs.Common.{◌≡◌, ℕ, ◌<◌, ◌≤◌, ◌^◌, true, List, [], ◌∷◌, ◌++◌, codes, Ok, Err, refl, sym, ap, subst, ◌∙◌, arith}
use Rattle.std.specs.Prelude.{decimal}
use Rattle.hex.specs.Hex.{encode_lower}
use Rattle.gp_ploam.specs.declared.check.Mask.{Mask}
use Rattle.gp_ploam.specs.declared.message.Serial.{Serial}
use Rattle.gp_ploam.specs.declared.message.Up.{Up}
use Rattle.gp_ploam.specs.declared.message.Up.TheVariants as up
use Rattle.gp_ploam.specs.Up.{IsProperUp}
use Rattle.gp_serial.specs.Spelling.{text_of_serial}
use Rattle.gp_decode.specs.Message.{up_text}
use Rattle.gp_lines.specs.Parts.{parts_of}
use Rattle.gp_lines.specs.Told.{AreOctets}
use Rattle.gp_lines.proofs.ToldLemmas.{number_plain}
use Rattle.gp_lines.proofs.ReadLemmas.{ok_same}
use Rattle.gp_encode.specs.declared.fault.WordsFault.TheVariants.{Named, Part}
use Rattle.gp_encode.specs.Said.{ComeBack, HoldsUp, as_said}
use Rattle.gp_encode.specs.Words.{no_copy, up_named, up_of, up_of_parts, up_serial_number, up_gasp, up_nothing, up_acknowledge, up_other}
use Rattle.gp_encode.proofs.FieldLemmas.{body_plain, body_taken, four_parts, number_taken, part_alone, serial_plain, serial_taken, three_parts, two_parts}

-- Serial_Number_ONU

named_serial_number : (parts : List (List ℕ)) → up_of_parts (codes "Serial_Number_ONU" ∷ parts) ≡ up_serial_number parts
unfolding up_named
named_serial_number parts = refl

split_serial_number : (text : List ℕ) → parts_of (codes "Serial_Number_ONU " ++ text) ≡ codes "Serial_Number_ONU" ∷ parts_of text
unfolding parts_of
split_serial_number text = refl

again_serial_number : (onu : ℕ) (serial : Serial) (random : ℕ) (flags : ℕ) → onu ≤ 255 → AreOctets 8 serial.0 → random ≤ 4095 → flags ≤ 15 → up_serial_number (decimal onu ∷ text_of_serial serial ∷ decimal random ∷ decimal flags ∷ []) ≡ Ok (up.SerialNumber onu serial random flags)
unfolding up_serial_number
again_serial_number onu serial random flags is_onu is_serial is_random is_flags =
    let small_onu : onu < 2 ^ 64 = omega (arith, is_onu) in
    let read_onu = number_taken 255 onu (text_of_serial serial ∷ decimal random ∷ decimal flags ∷ []) is_onu small_onu in
    let read_serial = serial_taken serial (decimal random ∷ decimal flags ∷ []) is_serial in
    let small_random : random < 2 ^ 64 = omega (arith, is_random) in
    let read_random = number_taken 4095 random (decimal flags ∷ []) is_random small_random in
    let small_flags : flags < 2 ^ 64 = omega (arith, is_flags) in
    let read_flags = number_taken 15 flags ([]) is_flags small_flags in
    rw (read_onu, read_serial, read_random, read_flags) refl

-- Dying_Gasp

named_gasp : (parts : List (List ℕ)) → up_of_parts (codes "Dying_Gasp" ∷ parts) ≡ up_gasp parts
unfolding up_named
named_gasp parts = refl

split_gasp : (text : List ℕ) → parts_of (codes "Dying_Gasp " ++ text) ≡ codes "Dying_Gasp" ∷ parts_of text
unfolding parts_of
split_gasp text = refl

again_gasp : (onu : ℕ) → onu ≤ 255 → up_gasp (decimal onu ∷ []) ≡ Ok (up.DyingGasp onu)
unfolding up_gasp
again_gasp onu is_onu =
    let small_onu : onu < 2 ^ 64 = omega (arith, is_onu) in
    let read_onu = number_taken 255 onu ([]) is_onu small_onu in
    rw read_onu refl

-- No_message

named_nothing : (parts : List (List ℕ)) → up_of_parts (codes "No_message" ∷ parts) ≡ up_nothing parts
unfolding up_named
named_nothing parts = refl

split_nothing : (text : List ℕ) → parts_of (codes "No_message " ++ text) ≡ codes "No_message" ∷ parts_of text
unfolding parts_of
split_nothing text = refl

again_nothing : (onu : ℕ) → onu ≤ 255 → up_nothing (decimal onu ∷ []) ≡ Ok (up.NoMessage onu)
unfolding up_nothing
again_nothing onu is_onu =
    let small_onu : onu < 2 ^ 64 = omega (arith, is_onu) in
    let read_onu = number_taken 255 onu ([]) is_onu small_onu in
    rw read_onu refl

-- Acknowledge

named_acknowledge : (parts : List (List ℕ)) → up_of_parts (codes "Acknowledge" ∷ parts) ≡ up_acknowledge parts
unfolding up_named
named_acknowledge parts = refl

split_acknowledge : (text : List ℕ) → parts_of (codes "Acknowledge " ++ text) ≡ codes "Acknowledge" ∷ parts_of text
unfolding parts_of
split_acknowledge text = refl

again_acknowledge : (onu : ℕ) (id : ℕ) → onu ≤ 255 → id ≤ 255 → up_acknowledge (decimal onu ∷ decimal id ∷ []) ≡ Ok (up.Acknowledge onu id no_copy)
unfolding up_acknowledge
again_acknowledge onu id is_onu is_id =
    let small_onu : onu < 2 ^ 64 = omega (arith, is_onu) in
    let read_onu = number_taken 255 onu (decimal id ∷ []) is_onu small_onu in
    let small_id : id < 2 ^ 64 = omega (arith, is_id) in
    let read_id = number_taken 255 id ([]) is_id small_id in
    rw (read_onu, read_id) refl

-- Other

named_other : (parts : List (List ℕ)) → up_of_parts (codes "Other" ∷ parts) ≡ up_other parts
unfolding up_named
named_other parts = refl

split_other : (text : List ℕ) → parts_of (codes "Other " ++ text) ≡ codes "Other" ∷ parts_of text
unfolding parts_of
split_other text = refl

again_other : (id : ℕ) (octet1 : ℕ) (body : List ℕ) → id ≤ 255 → octet1 ≤ 255 → AreOctets 10 body → up_other (decimal id ∷ decimal octet1 ∷ encode_lower body ∷ []) ≡ Ok (up.Other id octet1 body)
unfolding up_other
again_other id octet1 body is_id is_octet1 is_body =
    let small_id : id < 2 ^ 64 = omega (arith, is_id) in
    let read_id = number_taken 255 id (decimal octet1 ∷ encode_lower body ∷ []) is_id small_id in
    let small_octet1 : octet1 < 2 ^ 64 = omega (arith, is_octet1) in
    let read_octet1 = number_taken 255 octet1 (encode_lower body ∷ []) is_octet1 small_octet1 in
    let read_body = body_taken body ([]) is_body in
    rw (read_id, read_octet1, read_body) refl

-- what the words of a proper message say
pub up_read : (m : Up) → HoldsUp m → IsProperUp m → up_of (up_text m) ≡ Ok (as_said m)
up_read (up.SerialNumber onu serial random flags) h p =
    let is_onu : onu ≤ 255 = omega (arith, h.0) in
    let small_onu : onu < 2 ^ 64 = omega (arith, is_onu) in
    let is_random : random ≤ 4095 = omega (arith, p.1) in
    let small_random : random < 2 ^ 64 = omega (arith, is_random) in
    let is_flags : flags ≤ 15 = omega (arith, p.2) in
    let small_flags : flags < 2 ^ 64 = omega (arith, is_flags) in
    let parts : parts_of ((((((decimal onu ++ codes " ") ++ text_of_serial serial) ++ codes " ") ++ decimal random) ++ codes " ") ++ decimal flags) ≡ decimal onu ∷ text_of_serial serial ∷ decimal random ∷ decimal flags ∷ [] = four_parts (decimal onu) (text_of_serial serial) (decimal random) (decimal flags) (number_plain onu small_onu) (serial_plain serial h.1) (number_plain random small_random) (number_plain flags small_flags) in
    ap up_of_parts (split_serial_number ((((((decimal onu ++ codes " ") ++ text_of_serial serial) ++ codes " ") ++ decimal random) ++ codes " ") ++ decimal flags) ∙ ap (λ (ps : List (List ℕ)). codes "Serial_Number_ONU" ∷ ps) parts)
    ∙ named_serial_number (decimal onu ∷ text_of_serial serial ∷ decimal random ∷ decimal flags ∷ []) ∙ again_serial_number onu serial random flags is_onu h.1 is_random is_flags
up_read (up.DyingGasp onu) h p =
    let is_onu : onu ≤ 255 = omega (arith, h) in
    let small_onu : onu < 2 ^ 64 = omega (arith, is_onu) in
    let parts : parts_of (decimal onu) ≡ decimal onu ∷ [] = part_alone (decimal onu) (number_plain onu small_onu) in
    ap up_of_parts (split_gasp (decimal onu) ∙ ap (λ (ps : List (List ℕ)). codes "Dying_Gasp" ∷ ps) parts)
    ∙ named_gasp (decimal onu ∷ []) ∙ again_gasp onu is_onu
up_read (up.NoMessage onu) h p =
    let is_onu : onu ≤ 255 = omega (arith, h) in
    let small_onu : onu < 2 ^ 64 = omega (arith, is_onu) in
    let parts : parts_of (decimal onu) ≡ decimal onu ∷ [] = part_alone (decimal onu) (number_plain onu small_onu) in
    ap up_of_parts (split_nothing (decimal onu) ∙ ap (λ (ps : List (List ℕ)). codes "No_message" ∷ ps) parts)
    ∙ named_nothing (decimal onu ∷ []) ∙ again_nothing onu is_onu
up_read (up.Acknowledge onu id copy) h p =
    let is_onu : onu ≤ 255 = omega (arith, h.0) in
    let small_onu : onu < 2 ^ 64 = omega (arith, is_onu) in
    let is_id : id ≤ 255 = omega (arith, h.1) in
    let small_id : id < 2 ^ 64 = omega (arith, is_id) in
    let parts : parts_of ((decimal onu ++ codes " ") ++ decimal id) ≡ decimal onu ∷ decimal id ∷ [] = two_parts (decimal onu) (decimal id) (number_plain onu small_onu) (number_plain id small_id) in
    ap up_of_parts (split_acknowledge ((decimal onu ++ codes " ") ++ decimal id) ∙ ap (λ (ps : List (List ℕ)). codes "Acknowledge" ∷ ps) parts)
    ∙ named_acknowledge (decimal onu ∷ decimal id ∷ []) ∙ again_acknowledge onu id is_onu is_id
up_read (up.Other id octet1 body) h p =
    let is_id : id ≤ 255 = omega (arith, h.0) in
    let small_id : id < 2 ^ 64 = omega (arith, is_id) in
    let is_octet1 : octet1 ≤ 255 = omega (arith, h.1) in
    let small_octet1 : octet1 < 2 ^ 64 = omega (arith, is_octet1) in
    let parts : parts_of ((((decimal id ++ codes " ") ++ decimal octet1) ++ codes " ") ++ encode_lower body) ≡ decimal id ∷ decimal octet1 ∷ encode_lower body ∷ [] = three_parts (decimal id) (decimal octet1) (encode_lower body) (number_plain id small_id) (number_plain octet1 small_octet1) (body_plain body h.2) in
    ap up_of_parts (split_other ((((decimal id ++ codes " ") ++ decimal octet1) ++ codes " ") ++ encode_lower body) ∙ ap (λ (ps : List (List ℕ)). codes "Other" ∷ ps) parts)
    ∙ named_other (decimal id ∷ decimal octet1 ∷ encode_lower body ∷ []) ∙ again_other id octet1 body is_id is_octet1 h.2

ok_err : {A E : Type 0} (x : A) (e : E) → Ok x ≡ Err e → ⊥
ok_err x e h = cc

-- what is left out changes no word, and nothing about what is proper
same_words : (m : Up) → up_text (as_said m) ≡ up_text m
same_words (up.SerialNumber onu serial random flags) = refl
same_words (up.DyingGasp onu) = refl
same_words (up.NoMessage onu) = refl
same_words (up.Acknowledge onu id copy) = refl
same_words (up.Other id octet1 body) = refl

still_proper : (m : Up) → IsProperUp m → IsProperUp (as_said m)
still_proper (up.SerialNumber onu serial random flags) p = p
still_proper (up.DyingGasp onu) p = p
still_proper (up.NoMessage onu) p = p
still_proper (up.Acknowledge onu id copy) p = refl
still_proper (up.Other id octet1 body) p = p

-- the words of a proper message come back
pub up_back : (m : Up) (mask : Mask) → HoldsUp m → IsProperUp m → ComeBack true mask (up_text m)
up_back m mask holds proper (Ok code) h =
    let same : h.0 ≡ as_said m = ok_same h.0 (as_said m) (sym h.1 ∙ up_read m holds proper) in
    (code, refl, (h.0, h.3, sym (ap up_text same ∙ same_words m)))
up_back m mask holds proper (Err (Part fault)) h = absurd (ok_err (as_said m) fault (sym (up_read m holds proper) ∙ h))
up_back m mask holds proper (Err Named) h =
    let same : h.0 ≡ as_said m = ok_same h.0 (as_said m) (sym h.1 ∙ up_read m holds proper) in
    absurd (h.2 (subst IsProperUp (sym same) (still_proper m proper)))
