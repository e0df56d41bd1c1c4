-- The values of keys, each in its range, or what is wanted in its place (this profile's own rule).
use Rattle.std.specs.Prelude.{ℕ, ℤ, pos, negsuc, List, ◌&&◌, Option, Some, None, Result, Ok, Err, nat_le, nat_lt, ◌-◌, ◌*◌, ◌==◌, if◌then◌else◌}
use Rattle.toml.specs.Data.{Items}
use Rattle.hex.specs.Hex.{decode_sized}
use Rattle.hex.specs.declared.error.FromHexError.{FromHexError}
use Rattle.gp_ploam.specs.declared.check.Mask.{Mask}
use Rattle.gp_ploam.specs.declared.check.Mask.TheVariants.{Plain, Coset}
use Rattle.gp_ploam.specs.declared.message.Serial.{Serial}
use Rattle.gp_serial.specs.declared.fault.SerialFault.{SerialFault}
use Rattle.gp_serial.specs.Spelling.{serial_of_text}
use Rattle.gp_script.specs.declared.place.Counted.{Counted}
use Rattle.gp_script.specs.declared.place.Wanted.{Wanted}
use Rattle.gp_script.specs.declared.place.Wanted.TheVariants as wanted
use Rattle.gp_script.specs.Keys.{item_count}

-- a number within its range
abbrev pub in_range : ℕ → ℕ → ℤ → Result ℕ Wanted
in_range low high (pos number) =
    if nat_le low number && nat_le number high then Ok number else Err (wanted.Range low high)
in_range low high (negsuc _) = Err (wanted.Range low high)

-- a number within its range, or the default where it is left out
abbrev pub in_range_or : ℕ → ℕ → ℕ → Option ℤ → Result ℕ Wanted
in_range_or default low high None = Ok default
in_range_or default low high (Some number) = in_range low high number

-- the place of one of so many ports or units
abbrev pub place_in : ℕ → ℤ → Result ℕ Wanted
place_in count (pos place) = if nat_lt place count then Ok place else Err (wanted.Range 0 (count - 1))
place_in count (negsuc _) = Err (wanted.Range 0 (count - 1))

-- a number from 0 on; TOML has none beyond this range
abbrev pub number_from_0 : ℤ → Result ℕ Wanted
number_from_0 (pos number) = Ok number
number_from_0 (negsuc _) = Err (wanted.Range 0 9223372036854775807)

-- a round-trip delay in bit times
abbrev pub delay_in : ℤ → Result ℕ Wanted
delay_in number = in_range 0 4294967295 number

-- a number of one octet
abbrev pub octet_in : ℤ → Result ℕ Wanted
octet_in number = in_range 0 255 number

-- as many items as a range allows
abbrev pub count_in : Counted → ℕ → ℕ → Items → Result ℕ Wanted
count_in counted low high items =
    if nat_le low (item_count items) && nat_le (item_count items) high then Ok (item_count items)
    else Err (wanted.Count counted low high)

-- the mask of a number: 0, which is also the default, or 85
abbrev pub mask_of : Option ℤ → Result Mask Wanted
mask_of None = Ok Plain
mask_of (Some (pos number)) =
    if number == 0 then Ok Plain else if number == 85 then Ok Coset else Err wanted.MaskNumber
mask_of (Some (negsuc _)) = Err wanted.MaskNumber

-- a serial number, whatever is wrong with its text
abbrev pub serial_or_wanted : Result Serial SerialFault → Result Serial Wanted
serial_or_wanted (Ok serial) = Ok serial
serial_or_wanted (Err _) = Err wanted.SerialText

-- the serial number that a text spells
abbrev pub serial_of : List ℕ → Result Serial Wanted
serial_of text = serial_or_wanted (serial_of_text text)

-- octets, whatever is wrong with their digits
abbrev pub octets_or_wanted : ℕ → Result (List ℕ) FromHexError → Result (List ℕ) Wanted
octets_or_wanted count (Ok octets) = Ok octets
octets_or_wanted count (Err _) = Err (wanted.Digits (2 * count))

-- so many octets, as twice as many hex digits
abbrev pub octets_of : ℕ → List ℕ → Result (List ℕ) Wanted
octets_of count text = octets_or_wanted count (decode_sized text count)
