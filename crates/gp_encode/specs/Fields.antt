-- The fields of a message in words, read from the left (this profile's own rule). Each is one part; what is read is the
-- field, with the parts behind it, or the first fault.
use Rattle.std.specs.Prelude.{ℕ, Bool, true, false, List, [], ◌∷◌, Result, Ok, Err, if◌then◌else◌, codes}
use Rattle.std.specs.Str.{bytes_eq}
use Rattle.hex.specs.Hex.{decode_sized}
use Rattle.gp_ploam.specs.declared.message.Serial.{Serial}
use Rattle.gp_lines.specs.declared.fault.LineFault.{LineFault}
use Rattle.gp_lines.specs.declared.fault.LineFault.TheVariants as fault
use Rattle.gp_lines.specs.Reading.{◌>>=◌, number_in, octets_or_fault, serial_in}

-- a part
abbrev pub next_part : List (List ℕ) → Result (List ℕ × List (List ℕ)) LineFault
next_part [] = Err fault.Word
next_part (part ∷ parts) = Ok (part, parts)

-- a number, from 0 to the greatest
unfoldable pub next_number : ℕ → List (List ℕ) → Result (ℕ × List (List ℕ)) LineFault
next_number greatest parts = do
  taken ← next_part parts
  number ← number_in 0 greatest taken.0
  Ok (number, taken.1)

-- a serial number
unfoldable pub next_serial : List (List ℕ) → Result (Serial × List (List ℕ)) LineFault
next_serial parts = do
  taken ← next_part parts
  serial ← serial_in taken.0
  Ok (serial, taken.1)

-- the ten octets of a body, two hexadecimal digits each
unfoldable pub next_body : List (List ℕ) → Result (List ℕ × List (List ℕ)) LineFault
next_body parts = do
  taken ← next_part parts
  body ← octets_or_fault (decode_sized taken.0 10)
  Ok (body, taken.1)

abbrev pub keep_of : List ℕ → Result Bool LineFault
keep_of word =
    if bytes_eq word (codes "keep") then Ok true else if bytes_eq word (codes "back") then Ok false else Err fault.Word

-- whether an Alloc-ID is kept: `keep` or `back`
unfoldable pub next_keep : List (List ℕ) → Result (Bool × List (List ℕ)) LineFault
next_keep parts = do
  taken ← next_part parts
  keep ← keep_of taken.0
  Ok (keep, taken.1)

-- nothing more
abbrev pub ended : List (List ℕ) → Result (Unit {0}) LineFault
ended [] = Ok tt
ended (part ∷ parts) = Err fault.Word
