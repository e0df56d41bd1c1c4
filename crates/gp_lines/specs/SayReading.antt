-- What is read of the words by which a unit says something (this profile's own rule).
use Rattle.std.specs.Prelude.{ℕ, List, [], ◌∷◌, Option, None, Some, Result, Ok, Err, if◌then◌else◌, codes, replicate}
use Rattle.std.specs.Str.{bytes_eq}
use Rattle.gp_ploam.specs.declared.check.Mask.{Mask}
use Rattle.gp_ploam.specs.declared.message.Up.TheVariants.{SerialNumber, Acknowledge}
use Rattle.gp_machine.specs.declared.event.Event.{Event}
use Rattle.gp_lines.specs.declared.fault.LineFault.{LineFault}
use Rattle.gp_lines.specs.declared.fault.LineFault.TheVariants as fault
use Rattle.gp_lines.specs.declared.say.OnuSaying.{OnuSaying}
use Rattle.gp_lines.specs.declared.say.OnuSaying.TheVariants as saying
use Rattle.gp_lines.specs.Reading.{◌>>=◌, number_in, serial_in}
use Rattle.gp_lines.specs.Say.{SayForm, OfSerial, OfOnu, Ack, onu_message, said}

-- a field that has to be there: its text, and the parts behind that
abbrev pub named_of : List ℕ → List (List ℕ) → Result (List ℕ × List (List ℕ)) LineFault
named_of word [] = Err fault.Word
named_of word (first ∷ []) = Err fault.Word
named_of word (first ∷ digits ∷ others) = if bytes_eq first word then Ok (digits, others) else Err fault.Word

-- an ONU-ID that may be left out, and the parts behind it
abbrev pub onu_or : List (List ℕ) → Result (List ℕ × List (List ℕ)) LineFault → Option (List ℕ) × List (List ℕ)
onu_or parts (Ok named) = (Some named.0, named.1)
onu_or parts (Err f) = (None, parts)

unfoldable pub onu_of : List (List ℕ) → Option (List ℕ) × List (List ℕ)
onu_of parts = onu_or parts (named_of (codes "onu") parts)

-- a delay that may be left out, behind which nothing stands
abbrev pub last_of : List ℕ × List (List ℕ) → Result (Option (List ℕ)) LineFault
last_of (digits, []) = Ok (Some digits)
last_of (digits, other ∷ others) = Err fault.Word

unfoldable pub named_at : List (List ℕ) → Result (Option (List ℕ)) LineFault
named_at parts = do
  named ← named_of (codes "at") parts
  last_of named

abbrev pub at_of : List (List ℕ) → Result (Option (List ℕ)) LineFault
at_of [] = Ok None
at_of (word ∷ others) = named_at (word ∷ others)

-- a serial number, by the parts behind its word
unfoldable pub serial_fields : List ℕ → Option (List ℕ) × List (List ℕ) → Result SayForm LineFault
serial_fields serial named = do
  at ← at_of named.1
  Ok (OfSerial serial named.0 at)

abbrev pub serial_form : List (List ℕ) → Result SayForm LineFault
serial_form [] = Err fault.Word
serial_form (serial ∷ behind) = serial_fields serial (onu_of behind)

-- what an ONU-ID says whole
unfoldable pub onu_form : OnuSaying → List (List ℕ) → Result SayForm LineFault
onu_form says behind = do
  onu ← named_of (codes "onu") behind
  at ← at_of onu.1
  Ok (OfOnu says onu.0 at)

-- an acknowledgement
unfoldable pub ack_form : List (List ℕ) → Result SayForm LineFault
ack_form behind = do
  onu ← named_of (codes "onu") behind
  id ← named_of (codes "id") onu.1
  at ← at_of id.1
  Ok (Ack onu.0 id.0 at)

-- the words, by the first of them
unfoldable pub worded_form : List ℕ → List (List ℕ) → Result SayForm LineFault
worded_form word behind =
    if bytes_eq word (codes "serial") then serial_form behind
    else if bytes_eq word (codes "gasp") then onu_form saying.Gasp behind
    else if bytes_eq word (codes "none") then onu_form saying.Silence behind
    else if bytes_eq word (codes "ack") then ack_form behind
    else Err fault.Word

abbrev pub form_of : List (List ℕ) → Result SayForm LineFault
form_of [] = Err fault.Word
form_of (word ∷ behind) = worded_form word behind

-- the number of a field, or the one that is meant where it is left out
abbrev pub number_or : ℕ → ℕ → Option (List ℕ) → Result ℕ LineFault
number_or meant high None = Ok meant
number_or meant high (Some digits) = number_in 0 high digits

-- the burst of right words
unfoldable pub serial_said : Mask → List ℕ → Option (List ℕ) → Option (List ℕ) → Result Event LineFault
serial_said mask serial onu at = do
  serial ← serial_in serial
  onu ← number_or 255 255 onu
  at ← number_or 0 4294967295 at
  Ok (said mask at (SerialNumber onu serial 0 0))

unfoldable pub onu_said : Mask → OnuSaying → List ℕ → Option (List ℕ) → Result Event LineFault
onu_said mask says onu at = do
  onu ← number_in 0 255 onu
  at ← number_or 0 4294967295 at
  Ok (said mask at (onu_message says onu))

unfoldable pub ack_said : Mask → List ℕ → List ℕ → Option (List ℕ) → Result Event LineFault
ack_said mask onu id at = do
  onu ← number_in 0 255 onu
  id ← number_in 0 255 id
  at ← number_or 0 4294967295 at
  Ok (said mask at (Acknowledge onu id (replicate 9 0)))

abbrev pub said_of : Mask → SayForm → Result Event LineFault
said_of mask (OfSerial serial onu at) = serial_said mask serial onu at
said_of mask (OfOnu says onu at) = onu_said mask says onu at
said_of mask (Ack onu id at) = ack_said mask onu id at

-- the burst of words, if they are right
abbrev pub form_said : Mask → Result SayForm LineFault → Result Event LineFault
form_said mask (Ok form) = said_of mask form
form_said mask (Err f) = Err f

-- the burst of the parts behind `say`
abbrev pub say_event : Mask → List (List ℕ) → Result Event LineFault
say_event mask parts = form_said mask (form_of parts)
