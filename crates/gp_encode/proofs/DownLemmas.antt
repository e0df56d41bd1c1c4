-- What the words of the line terminal say.
use Rattle.std.proofs.Common.{◌≡◌, ℕ, ◌<◌, ◌≤◌, ◌^◌, Bool, false, List, [], ◌∷◌, ◌++◌, codes, Ok, Err, refl, sym, ap, subst, ◌∙◌, arith}
use Rattle.std.specs.Prelude.{decimal}
use Rattle.hex.specs.Hex.{encode_lower}
use Rattle.gp_ploam.specs.declared.check.Mask.{Mask}
use Rattle.gp_ploam.specs.declared.message.Serial.{Serial}
use Rattle.gp_ploam.specs.declared.message.Down.{Down}
use Rattle.gp_ploam.specs.declared.message.Down.TheVariants as down
use Rattle.gp_ploam.specs.Down.{IsProperDown}
use Rattle.gp_serial.specs.Spelling.{text_of_serial}
use Rattle.gp_decode.specs.Message.{down_text, keep_text}
use Rattle.gp_lines.specs.Parts.{parts_of}
use Rattle.gp_lines.specs.Told.{AreOctets}
use Rattle.gp_lines.proofs.ToldLemmas.{number_plain}
use Rattle.gp_lines.proofs.ReadLemmas.{ok_same}
use Rattle.gp_encode.specs.declared.fault.WordsFault.TheVariants.{Named, Part}
use Rattle.gp_encode.specs.Said.{ComeBack, HoldsDown}
use Rattle.gp_encode.specs.Words.{down_named, down_of, down_of_parts, down_overhead, down_assign_onu, down_ranging_time, down_deactivate, down_disable_serial, down_enable_serial, down_enable_all, down_assign_alloc, down_nothing, down_popup, down_other}
use Rattle.gp_encode.proofs.FieldLemmas.{body_plain, body_taken, keep_plain, keep_taken, number_taken, part_alone, serial_plain, serial_taken, three_parts, two_parts}

-- Upstream_Overhead

named_overhead : (parts : List (List ℕ)) → down_of_parts (codes "Upstream_Overhead" ∷ parts) ≡ down_overhead parts
unfolding down_named
named_overhead parts = refl

split_overhead : (text : List ℕ) → parts_of (codes "Upstream_Overhead " ++ text) ≡ codes "Upstream_Overhead" ∷ parts_of text
unfolding parts_of
split_overhead text = refl

again_overhead : (burst : List ℕ) → AreOctets 10 burst → down_overhead (encode_lower burst ∷ []) ≡ Ok (down.UpstreamOverhead burst)
unfolding down_overhead
again_overhead burst is_burst =
    let read_burst = body_taken burst ([]) is_burst in
    rw read_burst refl

-- Assign_ONU-ID

named_assign_onu : (parts : List (List ℕ)) → down_of_parts (codes "Assign_ONU-ID" ∷ parts) ≡ down_assign_onu parts
unfolding down_named
named_assign_onu parts = refl

split_assign_onu : (text : List ℕ) → parts_of (codes "Assign_ONU-ID " ++ text) ≡ codes "Assign_ONU-ID" ∷ parts_of text
unfolding parts_of
split_assign_onu text = refl

again_assign_onu : (onu : ℕ) (serial : Serial) → onu ≤ 255 → AreOctets 8 serial.0 → down_assign_onu (decimal onu ∷ text_of_serial serial ∷ []) ≡ Ok (down.AssignOnu onu serial)
unfolding down_assign_onu
again_assign_onu onu serial is_onu is_serial =
    let small_onu : onu < 2 ^ 64 = omega (arith, is_onu) in
    let read_onu = number_taken 255 onu (text_of_serial serial ∷ []) is_onu small_onu in
    let read_serial = serial_taken serial ([]) is_serial in
    rw (read_onu, read_serial) refl

-- Ranging_Time

named_ranging_time : (parts : List (List ℕ)) → down_of_parts (codes "Ranging_Time" ∷ parts) ≡ down_ranging_time parts
unfolding down_named
named_ranging_time parts = refl

split_ranging_time : (text : List ℕ) → parts_of (codes "Ranging_Time " ++ text) ≡ codes "Ranging_Time" ∷ parts_of text
unfolding parts_of
split_ranging_time text = refl

again_ranging_time : (onu : ℕ) (eqd : ℕ) → onu ≤ 255 → eqd ≤ 4294967295 → down_ranging_time (decimal onu ∷ decimal eqd ∷ []) ≡ Ok (down.RangingTime onu eqd)
unfolding down_ranging_time
again_ranging_time onu eqd is_onu is_eqd =
    let small_onu : onu < 2 ^ 64 = omega (arith, is_onu) in
    let read_onu = number_taken 255 onu (decimal eqd ∷ []) is_onu small_onu in
    let small_eqd : eqd < 2 ^ 64 = omega (arith, is_eqd) in
    let read_eqd = number_taken 4294967295 eqd ([]) is_eqd small_eqd in
    rw (read_onu, read_eqd) refl

-- Deactivate_ONU-ID

named_deactivate : (parts : List (List ℕ)) → down_of_parts (codes "Deactivate_ONU-ID" ∷ parts) ≡ down_deactivate parts
unfolding down_named
named_deactivate parts = refl

split_deactivate : (text : List ℕ) → parts_of (codes "Deactivate_ONU-ID " ++ text) ≡ codes "Deactivate_ONU-ID" ∷ parts_of text
unfolding parts_of
split_deactivate text = refl

again_deactivate : (onu : ℕ) → onu ≤ 255 → down_deactivate (decimal onu ∷ []) ≡ Ok (down.Deactivate onu)
unfolding down_deactivate
again_deactivate onu is_onu =
    let small_onu : onu < 2 ^ 64 = omega (arith, is_onu) in
    let read_onu = number_taken 255 onu ([]) is_onu small_onu in
    rw read_onu refl

-- Disable_Serial_Number

named_disable_serial : (parts : List (List ℕ)) → down_of_parts (codes "Disable_Serial_Number" ∷ parts) ≡ down_disable_serial parts
unfolding down_named
named_disable_serial parts = refl

split_disable_serial : (text : List ℕ) → parts_of (codes "Disable_Serial_Number " ++ text) ≡ codes "Disable_Serial_Number" ∷ parts_of text
unfolding parts_of
split_disable_serial text = refl

again_disable_serial : (serial : Serial) → AreOctets 8 serial.0 → down_disable_serial (text_of_serial serial ∷ []) ≡ Ok (down.DisableSerial serial)
unfolding down_disable_serial
again_disable_serial serial is_serial =
    let read_serial = serial_taken serial ([]) is_serial in
    rw read_serial refl

-- Enable_Serial_Number

named_enable_serial : (parts : List (List ℕ)) → down_of_parts (codes "Enable_Serial_Number" ∷ parts) ≡ down_enable_serial parts
unfolding down_named
named_enable_serial parts = refl

split_enable_serial : (text : List ℕ) → parts_of (codes "Enable_Serial_Number " ++ text) ≡ codes "Enable_Serial_Number" ∷ parts_of text
unfolding parts_of
split_enable_serial text = refl

again_enable_serial : (serial : Serial) → AreOctets 8 serial.0 → down_enable_serial (text_of_serial serial ∷ []) ≡ Ok (down.EnableSerial serial)
unfolding down_enable_serial
again_enable_serial serial is_serial =
    let read_serial = serial_taken serial ([]) is_serial in
    rw read_serial refl

-- Enable_All

named_enable_all : (parts : List (List ℕ)) → down_of_parts (codes "Enable_All" ∷ parts) ≡ down_enable_all parts
unfolding down_named
named_enable_all parts = refl

split_enable_all : parts_of (codes "Enable_All") ≡ codes "Enable_All" ∷ []
unfolding parts_of
split_enable_all = refl

again_enable_all : down_enable_all [] ≡ Ok down.EnableAll
unfolding down_enable_all
again_enable_all = refl

-- Assign_Alloc-ID

named_assign_alloc : (parts : List (List ℕ)) → down_of_parts (codes "Assign_Alloc-ID" ∷ parts) ≡ down_assign_alloc parts
unfolding down_named
named_assign_alloc parts = refl

split_assign_alloc : (text : List ℕ) → parts_of (codes "Assign_Alloc-ID " ++ text) ≡ codes "Assign_Alloc-ID" ∷ parts_of text
unfolding parts_of
split_assign_alloc text = refl

again_assign_alloc : (onu : ℕ) (alloc : ℕ) (keep : Bool) → onu ≤ 255 → alloc ≤ 4095 → down_assign_alloc (decimal onu ∷ decimal alloc ∷ keep_text keep ∷ []) ≡ Ok (down.AssignAlloc onu alloc keep)
unfolding down_assign_alloc
again_assign_alloc onu alloc keep is_onu is_alloc =
    let small_onu : onu < 2 ^ 64 = omega (arith, is_onu) in
    let read_onu = number_taken 255 onu (decimal alloc ∷ keep_text keep ∷ []) is_onu small_onu in
    let small_alloc : alloc < 2 ^ 64 = omega (arith, is_alloc) in
    let read_alloc = number_taken 4095 alloc (keep_text keep ∷ []) is_alloc small_alloc in
    let read_keep = keep_taken keep ([]) in
    rw (read_onu, read_alloc, read_keep) refl

-- No_message

named_nothing : (parts : List (List ℕ)) → down_of_parts (codes "No_message" ∷ parts) ≡ down_nothing parts
unfolding down_named
named_nothing parts = refl

split_nothing : parts_of (codes "No_message") ≡ codes "No_message" ∷ []
unfolding parts_of
split_nothing = refl

again_nothing : down_nothing [] ≡ Ok down.NoMessage
unfolding down_nothing
again_nothing = refl

-- POPUP

named_popup : (parts : List (List ℕ)) → down_of_parts (codes "POPUP" ∷ parts) ≡ down_popup parts
unfolding down_named
named_popup parts = refl

split_popup : (text : List ℕ) → parts_of (codes "POPUP " ++ text) ≡ codes "POPUP" ∷ parts_of text
unfolding parts_of
split_popup text = refl

again_popup : (onu : ℕ) → onu ≤ 255 → down_popup (decimal onu ∷ []) ≡ Ok (down.Popup onu)
unfolding down_popup
again_popup onu is_onu =
    let small_onu : onu < 2 ^ 64 = omega (arith, is_onu) in
    let read_onu = number_taken 255 onu ([]) is_onu small_onu in
    rw read_onu refl

-- Other

named_other : (parts : List (List ℕ)) → down_of_parts (codes "Other" ∷ parts) ≡ down_other parts
unfolding down_named
named_other parts = refl

split_other : (text : List ℕ) → parts_of (codes "Other " ++ text) ≡ codes "Other" ∷ parts_of text
unfolding parts_of
split_other text = refl

again_other : (id : ℕ) (octet1 : ℕ) (body : List ℕ) → id ≤ 255 → octet1 ≤ 255 → AreOctets 10 body → down_other (decimal id ∷ decimal octet1 ∷ encode_lower body ∷ []) ≡ Ok (down.Other id octet1 body)
unfolding down_other
again_other id octet1 body is_id is_octet1 is_body =
    let small_id : id < 2 ^ 64 = omega (arith, is_id) in
    let read_id = number_taken 255 id (decimal octet1 ∷ encode_lower body ∷ []) is_id small_id in
    let small_octet1 : octet1 < 2 ^ 64 = omega (arith, is_octet1) in
    let read_octet1 = number_taken 255 octet1 (encode_lower body ∷ []) is_octet1 small_octet1 in
    let read_body = body_taken body ([]) is_body in
    rw (read_id, read_octet1, read_body) refl

-- what the words of a proper message say
pub down_read : (m : Down) → HoldsDown m → IsProperDown m → down_of (down_text m) ≡ Ok m
down_read (down.UpstreamOverhead burst) h p =
    let parts : parts_of (encode_lower burst) ≡ encode_lower burst ∷ [] = part_alone (encode_lower burst) (body_plain burst h) in
    ap down_of_parts (split_overhead (encode_lower burst) ∙ ap (λ (ps : List (List ℕ)). codes "Upstream_Overhead" ∷ ps) parts)
    ∙ named_overhead (encode_lower burst ∷ []) ∙ again_overhead burst h
down_read (down.AssignOnu onu serial) h p =
    let is_onu : onu ≤ 255 = omega (arith, h.0) in
    let small_onu : onu < 2 ^ 64 = omega (arith, is_onu) in
    let parts : parts_of ((decimal onu ++ codes " ") ++ text_of_serial serial) ≡ decimal onu ∷ text_of_serial serial ∷ [] = two_parts (decimal onu) (text_of_serial serial) (number_plain onu small_onu) (serial_plain serial h.1) in
    ap down_of_parts (split_assign_onu ((decimal onu ++ codes " ") ++ text_of_serial serial) ∙ ap (λ (ps : List (List ℕ)). codes "Assign_ONU-ID" ∷ ps) parts)
    ∙ named_assign_onu (decimal onu ∷ text_of_serial serial ∷ []) ∙ again_assign_onu onu serial is_onu h.1
down_read (down.RangingTime onu eqd) h p =
    let is_onu : onu ≤ 255 = omega (arith, h.0) in
    let small_onu : onu < 2 ^ 64 = omega (arith, is_onu) in
    let is_eqd : eqd ≤ 4294967295 = omega (arith, h.1) in
    let small_eqd : eqd < 2 ^ 64 = omega (arith, is_eqd) in
    let parts : parts_of ((decimal onu ++ codes " ") ++ decimal eqd) ≡ decimal onu ∷ decimal eqd ∷ [] = two_parts (decimal onu) (decimal eqd) (number_plain onu small_onu) (number_plain eqd small_eqd) in
    ap down_of_parts (split_ranging_time ((decimal onu ++ codes " ") ++ decimal eqd) ∙ ap (λ (ps : List (List ℕ)). codes "Ranging_Time" ∷ ps) parts)
    ∙ named_ranging_time (decimal onu ∷ decimal eqd ∷ []) ∙ again_ranging_time onu eqd is_onu is_eqd
down_read (down.Deactivate onu) h p =
    let is_onu : onu ≤ 255 = omega (arith, h) in
    let small_onu : onu < 2 ^ 64 = omega (arith, is_onu) in
    let parts : parts_of (decimal onu) ≡ decimal onu ∷ [] = part_alone (decimal onu) (number_plain onu small_onu) in
    ap down_of_parts (split_deactivate (decimal onu) ∙ ap (λ (ps : List (List ℕ)). codes "Deactivate_ONU-ID" ∷ ps) parts)
    ∙ named_deactivate (decimal onu ∷ []) ∙ again_deactivate onu is_onu
down_read (down.DisableSerial serial) h p =
    let parts : parts_of (text_of_serial serial) ≡ text_of_serial serial ∷ [] = part_alone (text_of_serial serial) (serial_plain serial h) in
    ap down_of_parts (split_disable_serial (text_of_serial serial) ∙ ap (λ (ps : List (List ℕ)). codes "Disable_Serial_Number" ∷ ps) parts)
    ∙ named_disable_serial (text_of_serial serial ∷ []) ∙ again_disable_serial serial h
down_read (down.EnableSerial serial) h p =
    let parts : parts_of (text_of_serial serial) ≡ text_of_serial serial ∷ [] = part_alone (text_of_serial serial) (serial_plain serial h) in
    ap down_of_parts (split_enable_serial (text_of_serial serial) ∙ ap (λ (ps : List (List ℕ)). codes "Enable_Serial_Number" ∷ ps) parts)
    ∙ named_enable_serial (text_of_serial serial ∷ []) ∙ again_enable_serial serial h
down_read down.EnableAll h p =
    ap down_of_parts split_enable_all ∙ named_enable_all [] ∙ again_enable_all
down_read (down.AssignAlloc onu alloc keep) h p =
    let is_onu : onu ≤ 255 = omega (arith, h.0) in
    let small_onu : onu < 2 ^ 64 = omega (arith, is_onu) in
    let is_alloc : alloc ≤ 4095 = omega (arith, p) in
    let small_alloc : alloc < 2 ^ 64 = omega (arith, is_alloc) in
    let parts : parts_of ((((decimal onu ++ codes " ") ++ decimal alloc) ++ codes " ") ++ keep_text keep) ≡ decimal onu ∷ decimal alloc ∷ keep_text keep ∷ [] = three_parts (decimal onu) (decimal alloc) (keep_text keep) (number_plain onu small_onu) (number_plain alloc small_alloc) (keep_plain keep) in
    ap down_of_parts (split_assign_alloc ((((decimal onu ++ codes " ") ++ decimal alloc) ++ codes " ") ++ keep_text keep) ∙ ap (λ (ps : List (List ℕ)). codes "Assign_Alloc-ID" ∷ ps) parts)
    ∙ named_assign_alloc (decimal onu ∷ decimal alloc ∷ keep_text keep ∷ []) ∙ again_assign_alloc onu alloc keep is_onu is_alloc
down_read down.NoMessage h p =
    ap down_of_parts split_nothing ∙ named_nothing [] ∙ again_nothing
down_read (down.Popup onu) h p =
    let is_onu : onu ≤ 255 = omega (arith, h) in
    let small_onu : onu < 2 ^ 64 = omega (arith, is_onu) in
    let parts : parts_of (decimal onu) ≡ decimal onu ∷ [] = part_alone (decimal onu) (number_plain onu small_onu) in
    ap down_of_parts (split_popup (decimal onu) ∙ ap (λ (ps : List (List ℕ)). codes "POPUP" ∷ ps) parts)
    ∙ named_popup (decimal onu ∷ []) ∙ again_popup onu is_onu
down_read (down.Other id octet1 body) h p =
    let is_id : id ≤ 255 = omega (arith, h.0) in
    let small_id : id < 2 ^ 64 = omega (arith, is_id) in
    let is_octet1 : octet1 ≤ 255 = omega (arith, h.1) in
    let small_octet1 : octet1 < 2 ^ 64 = omega (arith, is_octet1) in
    let parts : parts_of ((((decimal id ++ codes " ") ++ decimal octet1) ++ codes " ") ++ encode_lower body) ≡ decimal id ∷ decimal octet1 ∷ encode_lower body ∷ [] = three_parts (decimal id) (decimal octet1) (encode_lower body) (number_plain id small_id) (number_plain octet1 small_octet1) (body_plain body h.2) in
    ap down_of_parts (split_other ((((decimal id ++ codes " ") ++ decimal octet1) ++ codes " ") ++ encode_lower body) ∙ ap (λ (ps : List (List ℕ)). codes "Other" ∷ ps) parts)
    ∙ named_other (decimal id ∷ decimal octet1 ∷ encode_lower body ∷ []) ∙ again_other id octet1 body is_id is_octet1 h.2

ok_err : {A E : Type 0} (x : A) (e : E) → Ok x ≡ Err e → ⊥
ok_err x e h = cc

-- the words of a proper message come back
pub down_back : (m : Down) (mask : Mask) → HoldsDown m → IsProperDown m → ComeBack false mask (down_text m)
down_back m mask holds proper (Ok code) h =
    let same : h.0 ≡ m = ok_same h.0 m (sym h.1 ∙ down_read m holds proper) in
    (code, refl, (h.0, h.3, ap down_text (sym same)))
down_back m mask holds proper (Err (Part fault)) h = absurd (ok_err m fault (sym (down_read m holds proper) ∙ h))
down_back m mask holds proper (Err Named) h =
    let same : h.0 ≡ m = ok_same h.0 m (sym h.1 ∙ down_read m holds proper) in
    absurd (h.2 (subst IsProperDown (sym same) proper))
