-- The words of a code's message are ASCII.
use Rattle.std.proofs.Common.{◌≡◌, ℕ, ◌<◌, Bool, true, false, List, ◌++◌, take, drop, get_or, codes, decimal, inl, inr, refl, sym, ◌∙◌, arith, nat_lt}
use Rattle.std.proofs.lemmas.Bool.{cases_Bool}
use Rattle.std.proofs.lemmas.Bool.Decides.{nat_tests}
use Rattle.std.proofs.lemmas.Fmt.{IsAscii-decimal}
use Rattle.std.proofs.lemmas.List.{get_or-take}
use Rattle.std.proofs.lemmas.List.Elements.{All-weaker}
use Rattle.std.proofs.lemmas.List.Sums.{AllPass-from_list_all}
use Rattle.std.proofs.lemmas.Str.{IsAscii-append}
use Rattle.std.proofs.lemmas.Str.Ascii.{IsAscii-from_all}
use Rattle.std.specs.List.{list_all}
use Rattle.std.specs.Str.{IsAscii}
use Rattle.hex.specs.Hex.{IsBytes, encode_lower, encode_upper}
use Rattle.gp_ploam.specs.declared.check.Mask.{Mask}
use Rattle.gp_ploam.specs.declared.message.Down.{Down}
use Rattle.gp_ploam.specs.declared.message.Down.TheVariants as down
use Rattle.gp_ploam.specs.declared.message.Serial.{Serial}
use Rattle.gp_ploam.specs.declared.message.Up.{Up}
use Rattle.gp_ploam.specs.declared.message.Up.TheVariants as up
use Rattle.gp_ploam.specs.Down.{IsProperDown, down_row}
use Rattle.gp_ploam.specs.Row.{Agrees}
use Rattle.gp_ploam.specs.Up.{IsProperUp, up_row}
use Rattle.gp_ploam.proofs.Rows.{agrees_at}
use Rattle.gp_serial.specs.Spelling.{has_vendor_code, text_of_serial}
use Rattle.gp_serial.proofs.TextLemmas.{IsAscii-encode_upper, IsAscii-vendor}
use Rattle.gp_decode.specs.Line.{HasWords}
use Rattle.gp_decode.specs.Message.{down_text, keep_text, other_text, up_text}
use Rattle.gp_decode.proofs.Digits.{IsAscii-encode_lower}

-- ---- fields

word : (text : List ℕ) → list_all (λ c. nat_lt c 128) text ≡ true → IsAscii text
word text small =
    IsAscii-from_all text (All-weaker (λ c. nat_lt c 128 ≡ true) (λ c. c < 128) (λ c below. grind (arith, nat_tests)) text (AllPass-from_list_all (λ c. nat_lt c 128) text small))

serial_text : (serial : Serial) → IsAscii (text_of_serial serial)
unfolding text_of_serial
serial_text serial =
    elim (cases_Bool (has_vendor_code serial.0)) [
      | inl code ↦ rw code (IsAscii-append (take 4 serial.0) (encode_upper (drop 4 serial.0)) (IsAscii-vendor (take 4 serial.0) code) (IsAscii-encode_upper (drop 4 serial.0)))
      | inr other ↦ rw other (IsAscii-encode_upper serial.0)
    ]

octet_text : (number : ℕ) → number < 256 → IsAscii (decimal number)
octet_text number small = IsAscii-decimal number (omega (arith, small))

keep_word : (keep : Bool) → IsAscii (keep_text keep)
keep_word true = word (codes "keep") refl
keep_word false = word (codes "back") refl

-- one text behind another
behind : (first second : List ℕ) → IsAscii first → IsAscii second → IsAscii (first ++ second)
behind first second one other = IsAscii-append first second one other

-- behind a space
spaced : (first second : List ℕ) → IsAscii first → IsAscii second → IsAscii ((first ++ codes " ") ++ second)
spaced first second one other = behind (first ++ codes " ") second (behind first (codes " ") one (word (codes " ") refl)) other

-- a word and a number of one octet
numbered : (text : List ℕ) (number : ℕ) → list_all (λ c. nat_lt c 128) text ≡ true → number < 256 → IsAscii (text ++ decimal number)
numbered text number plain small = behind text (decimal number) (word text plain) (octet_text number small)

other_ascii : (id octet1 : ℕ) (body : List ℕ) → id < 256 → octet1 < 256 → IsAscii (other_text id octet1 body)
other_ascii id octet1 body small first =
    spaced (codes "Other " ++ decimal id ++ codes " " ++ decimal octet1) (encode_lower body) (
    spaced (codes "Other " ++ decimal id) (decimal octet1) (behind (codes "Other ") (decimal id) (word (codes "Other ") refl) (octet_text id small)) (octet_text octet1 first)
    ) (IsAscii-encode_lower body)

-- ---- messages

-- an octet of a code
small_at : (code : List ℕ) (i octet : ℕ) → IsBytes code → i < 12 → get_or (take 12 code) i 0 ≡ octet → octet < 256
small_at code i octet bytes within is =
    let found = get_or-take 12 code i 0 within in
    let small = bytes i in
    omega (arith, sym is ∙ found, small)

down_ascii : (code : List ℕ) (m : Down) → IsBytes code → IsProperDown m → Agrees (down_row m) (take 12 code) → IsAscii (down_text m)
down_ascii code (down.UpstreamOverhead burst) bytes proper row = behind (codes "Upstream_Overhead ") (encode_lower burst) (word (codes "Upstream_Overhead ") refl) (IsAscii-encode_lower burst)
down_ascii code (down.AssignOnu onu serial) bytes proper row =
    let small : onu < 256 = small_at code 2 onu bytes (omega arith) (agrees_at (down_row (down.AssignOnu onu serial)) (take 12 code) 2 row) in
    spaced (codes "Assign_ONU-ID " ++ decimal onu) (text_of_serial serial) (numbered (codes "Assign_ONU-ID ") onu refl small) (serial_text serial)
down_ascii code (down.RangingTime onu eqd) bytes proper row =
    let small : onu < 256 = small_at code 0 onu bytes (omega arith) (agrees_at (down_row (down.RangingTime onu eqd)) (take 12 code) 0 row) in
    spaced (codes "Ranging_Time " ++ decimal onu) (decimal eqd) (numbered (codes "Ranging_Time ") onu refl small) (IsAscii-decimal eqd (omega (arith, proper)))
down_ascii code (down.Deactivate onu) bytes proper row =
    let small : onu < 256 = small_at code 0 onu bytes (omega arith) (agrees_at (down_row (down.Deactivate onu)) (take 12 code) 0 row) in
    numbered (codes "Deactivate_ONU-ID ") onu refl small
down_ascii code (down.DisableSerial serial) bytes proper row = behind (codes "Disable_Serial_Number ") (text_of_serial serial) (word (codes "Disable_Serial_Number ") refl) (serial_text serial)
down_ascii code (down.EnableSerial serial) bytes proper row = behind (codes "Enable_Serial_Number ") (text_of_serial serial) (word (codes "Enable_Serial_Number ") refl) (serial_text serial)
down_ascii code down.EnableAll bytes proper row = word (codes "Enable_All") refl
down_ascii code (down.AssignAlloc onu alloc keep) bytes proper row =
    let small : onu < 256 = small_at code 0 onu bytes (omega arith) (agrees_at (down_row (down.AssignAlloc onu alloc keep)) (take 12 code) 0 row) in
    spaced (codes "Assign_Alloc-ID " ++ decimal onu ++ codes " " ++ decimal alloc) (keep_text keep) (
    spaced (codes "Assign_Alloc-ID " ++ decimal onu) (decimal alloc) (numbered (codes "Assign_Alloc-ID ") onu refl small) (IsAscii-decimal alloc (omega (arith, proper)))
    ) (keep_word keep)
down_ascii code down.NoMessage bytes proper row = word (codes "No_message") refl
down_ascii code (down.Popup onu) bytes proper row =
    let small : onu < 256 = small_at code 0 onu bytes (omega arith) (agrees_at (down_row (down.Popup onu)) (take 12 code) 0 row) in
    numbered (codes "POPUP ") onu refl small
down_ascii code (down.Other id octet1 body) bytes proper row =
    let first : octet1 < 256 = small_at code 0 octet1 bytes (omega arith) (agrees_at (down_row (down.Other id octet1 body)) (take 12 code) 0 row) in
    let small : id < 256 = small_at code 1 id bytes (omega arith) (agrees_at (down_row (down.Other id octet1 body)) (take 12 code) 1 row) in
    other_ascii id octet1 body small first

up_ascii : (code : List ℕ) (m : Up) → IsBytes code → IsProperUp m → Agrees (up_row m) (take 12 code) → IsAscii (up_text m)
up_ascii code (up.SerialNumber onu serial random flags) bytes proper row =
    let small : onu < 256 = small_at code 0 onu bytes (omega arith) (agrees_at (up_row (up.SerialNumber onu serial random flags)) (take 12 code) 0 row) in
    let unit = spaced (codes "Serial_Number_ONU " ++ decimal onu) (text_of_serial serial) (numbered (codes "Serial_Number_ONU ") onu refl small) (serial_text serial) in
    spaced (codes "Serial_Number_ONU " ++ decimal onu ++ codes " " ++ text_of_serial serial ++ codes " " ++ decimal random) (decimal flags) (
    spaced (codes "Serial_Number_ONU " ++ decimal onu ++ codes " " ++ text_of_serial serial) (decimal random) unit (IsAscii-decimal random (omega (arith, proper.1)))
    ) (IsAscii-decimal flags (omega (arith, proper.2)))
up_ascii code (up.DyingGasp onu) bytes proper row =
    let small : onu < 256 = small_at code 0 onu bytes (omega arith) (agrees_at (up_row (up.DyingGasp onu)) (take 12 code) 0 row) in
    numbered (codes "Dying_Gasp ") onu refl small
up_ascii code (up.NoMessage onu) bytes proper row =
    let small : onu < 256 = small_at code 0 onu bytes (omega arith) (agrees_at (up_row (up.NoMessage onu)) (take 12 code) 0 row) in
    numbered (codes "No_message ") onu refl small
up_ascii code (up.Acknowledge onu id copy) bytes proper row =
    let small : onu < 256 = small_at code 0 onu bytes (omega arith) (agrees_at (up_row (up.Acknowledge onu id copy)) (take 12 code) 0 row) in
    let told : id < 256 = small_at code 2 id bytes (omega arith) (agrees_at (up_row (up.Acknowledge onu id copy)) (take 12 code) 2 row) in
    spaced (codes "Acknowledge " ++ decimal onu) (decimal id) (numbered (codes "Acknowledge ") onu refl small) (octet_text id told)
up_ascii code (up.Other id octet1 body) bytes proper row =
    let first : octet1 < 256 = small_at code 0 octet1 bytes (omega arith) (agrees_at (up_row (up.Other id octet1 body)) (take 12 code) 0 row) in
    let small : id < 256 = small_at code 1 id bytes (omega arith) (agrees_at (up_row (up.Other id octet1 body)) (take 12 code) 1 row) in
    other_ascii id octet1 body small first

-- the words of a code
pub words_ascii : (upstream : Bool) (mask : Mask) (code words : List ℕ) → IsBytes code → HasWords upstream mask code words → IsAscii words
words_ascii true mask code words bytes h = rw h.2 (up_ascii code h.0 bytes h.1.proper h.1.row)
words_ascii false mask code words bytes h = rw h.2 (down_ascii code h.0 bytes h.1.proper h.1.row)
