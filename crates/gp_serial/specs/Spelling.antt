-- How a serial number is written (this profile's own rule). It has eight octets: a vendor code of four characters, and
-- four octets that the vendor numbers its units by (G.984.3, clause 9, Serial_Number_ONU).
use Rattle.std.specs.Prelude.{◌≡◌, ◌≢◌, ℕ, ◌==◌, ◌||◌, Bool, true, false, if◌then◌else◌, List, [], ◌++◌, length, take, drop, ◌⊎◌, Result, Ok, Err}
use Rattle.std.specs.List.{list_all}
use Rattle.std.specs.Char.{is_ascii_uppercase, is_ascii_digit}
use Rattle.hex.specs.Hex.{decode_of, encode_upper, is_hex_digit}
use Rattle.hex.specs.declared.error.FromHexError.{FromHexError}
use Rattle.gp_ploam.specs.declared.message.Serial.{Serial}
use Rattle.gp_serial.specs.declared.fault.SerialFault.{SerialFault}
use Rattle.gp_serial.specs.declared.fault.SerialFault.TheVariants as fault

-- an octet that a vendor code may have: A to Z, 0 to 9
abbrev pub is_vendor_character : ℕ → Bool
is_vendor_character octet = is_ascii_uppercase octet || is_ascii_digit octet

-- the first four octets can stand for themselves, as a vendor code
abbrev pub has_vendor_code : List ℕ → Bool
has_vendor_code octets = list_all is_vendor_character (take 4 octets)

-- twelve characters: the vendor code as it is, and the other four octets in hex
pub record SpellsByVendor (text : List ℕ) (serial : Serial) : Type 0 where
  pub long : length text ≡ 12
  pub characters : has_vendor_code text ≡ true
  pub vendor : take 4 text ≡ take 4 serial.0
  pub digits : decode_of (drop 4 text) ≡ Ok (drop 4 serial.0)

-- sixteen characters: all eight octets in hex
pub record SpellsByDigits (text : List ℕ) (serial : Serial) : Type 0 where
  pub long : length text ≡ 16
  pub digits : decode_of text ≡ Ok serial.0

-- the text is a spelling of the serial number, its hex digits in either case
abbrev pub Spells : List ℕ → Serial → Type 0
Spells text serial = SpellsByVendor text serial ⊎ SpellsByDigits text serial

-- the first fault of a text that spells no serial number
abbrev pub HasFault : List ℕ → SerialFault → Type 0
HasFault text fault.Length = (length text ≢ 12) × (length text ≢ 16)
HasFault text fault.Vendor = (length text ≡ 12) × (has_vendor_code text ≡ false)
HasFault text fault.Digit =
    ((length text ≡ 12) × (has_vendor_code text ≡ true) × (list_all is_hex_digit (drop 4 text) ≡ false))
    ⊎ ((length text ≡ 16) × (list_all is_hex_digit text ≡ false))
HasFault text fault.OutOfMemory = ⊥

-- the serial number of these octets
abbrev pub serial_with : List ℕ → Serial
serial_with octets = record { 0 = octets }

-- the vendor code, followed by what the digits say
abbrev pub serial_or_fault : List ℕ → Result (List ℕ) FromHexError → Result Serial SerialFault
serial_or_fault vendor (Ok octets) = Ok (serial_with (vendor ++ octets))
serial_or_fault vendor (Err e) = Err fault.Digit

-- the serial number that a text spells, or its first fault
unfoldable pub serial_of_text : List ℕ → Result Serial SerialFault
serial_of_text text =
    if length text == 12
    then (if has_vendor_code text then serial_or_fault (take 4 text) (decode_of (drop 4 text)) else Err fault.Vendor)
    else (if length text == 16 then serial_or_fault [] (decode_of text) else Err fault.Length)

-- how a serial number is shown: with its vendor code where it has one, and else in digits alone, in upper case
unfoldable pub text_of_serial : Serial → List ℕ
text_of_serial serial =
    if has_vendor_code serial.0 then take 4 serial.0 ++ encode_upper (drop 4 serial.0) else encode_upper serial.0
