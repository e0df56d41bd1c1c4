-- What is said to lines each of which should be the hexadecimal digits of a code (this profile's own rule).
use Rattle.std.specs.Prelude.{◌≡◌, ◌⊎◌, ◌==◌, ℕ, ◌+◌, Bool, true, false, List, [], ◌∷◌, ◌++◌, Option, Some, None, Result, Ok, Err, codes, decimal, length, take, slice_index, if◌then◌else◌}
use Rattle.hex.specs.Hex.{decode_of, encode_lower}
use Rattle.gp_flow.specs.declared.lines.LinesEnd.{LinesEnd}
use Rattle.gp_flow.specs.declared.fault.LinesFault.{LinesFault}
use Rattle.gp_flow.specs.Lines.{Serves, Speech, WholeLines, longest_line, most_lines}
use Rattle.gp_stream.specs.Sink.{SinkState}
use Rattle.gp_stream.specs.Source.{SourceState}
use Rattle.gp_ploam.specs.declared.check.Mask.{Mask}
use Rattle.gp_ploam.specs.declared.check.Mask.TheVariants as masks
use Rattle.gp_ploam.specs.Crc.{crc_of}
use Rattle.gp_ploam.specs.Mask.{mask_value}
use Rattle.gp_decode.specs.declared.decoder.FaultAt.{FaultAt}
use Rattle.gp_decode.specs.declared.direction.Direction.{Direction}
use Rattle.gp_decode.specs.declared.fault.DecodeFault.{DecodeFault}
use Rattle.gp_decode.specs.declared.fault.DecodeFault.TheVariants as fault
use Rattle.gp_decode.specs.Line.{HasDecodeFault, HasWrongCheck, SaysIn}
use Rattle.gp_decode.specs.LineText.{code_digits, directed, direction_of, is_remark, without_return}

-- the name of a fault of a text
abbrev pub fault_name : DecodeFault → List ℕ
fault_name fault.Length = codes "length"
fault_name fault.Digit = codes "digit"
fault_name fault.Crc = codes "crc"
fault_name fault.OutOfMemory = codes "memory"
fault_name fault.Write = codes "write"
fault_name fault.Direction = codes "direction"

-- what is said to a line with a fault: the line's number, counted from 1, and the fault's name
abbrev pub error_text : ℕ → DecodeFault → List ℕ
error_text line fault = codes "error " ++ decimal line ++ codes " " ++ fault_name fault

abbrev pub error_line : ℕ → DecodeFault → List ℕ
error_line line fault = error_text line fault ++ codes "\n"

-- the mask that is not in use
abbrev pub other_mask : Mask → Mask
other_mask masks.Plain = masks.Coset
other_mask masks.Coset = masks.Plain

-- the octet that a mask is, in decimal
abbrev pub mask_text : Mask → List ℕ
mask_text masks.Plain = codes "0"
mask_text masks.Coset = codes "85"

-- the check octet that the first twelve octets of a code want under a mask
abbrev pub wanted_check : Mask → List ℕ → ℕ
wanted_check mask code = crc_of (take 12 code) (mask_value mask)

-- what would be right of a code whose check octet is wrong under the mask: it is right under the other one; or else
-- this octet would be under the mask, as two hexadecimal digits
abbrev pub check_note : Mask → List ℕ → List ℕ
check_note mask code =
    if wanted_check (other_mask mask) code == slice_index code 12
    then codes ", right under mask " ++ mask_text (other_mask mask)
    else codes ", " ++ encode_lower (wanted_check mask code ∷ []) ++ codes " should stand"

-- what is said to a line with such a code
abbrev pub check_line : ℕ → Mask → List ℕ → List ℕ
check_line line mask code = error_text line fault.Crc ++ check_note mask code ++ codes "\n"

-- where it stands: the direction and the mask of the codes, whether messages are told with names of the standard, how
-- many lines came, and the first that had a fault
pub record DecodeState : Type 0 where
  pub direction : Direction
  pub mask : Mask
  pub names : Bool
  pub lines : ℕ
  pub first : Option FaultAt

-- before the first line, with names of the standard or without
abbrev pub opened_in : Bool → Direction → Mask → DecodeState
opened_in names direction mask =
    record { direction = direction; mask = mask; names = names; lines = 0; first = None }

-- the same without, where all codes are of one direction
abbrev pub opened_decode : Bool → Mask → DecodeState
opened_decode upstream mask = opened_in false (direction_of upstream) mask

-- the first of two, if there is one
abbrev pub first_of : Option FaultAt → FaultAt → FaultAt
first_of None at = at
first_of (Some first) at = first

-- one line more came, which had no fault
abbrev pub counted : DecodeState → DecodeState
counted state = record state { lines = state.lines + 1 }

-- one line more came, which had this fault
abbrev pub faulted : DecodeFault → DecodeState → DecodeState
faulted fault state = record state {
  lines = state.lines + 1;
  first = Some (first_of state.first (record { line = state.lines + 1; fault = fault }));
}

-- one line more came, which had this fault, or none
abbrev pub after : Option DecodeFault → DecodeState → DecodeState
after None state = counted state
after (Some fault) state = faulted fault state

-- the digits of a code with this fault, or none: they are answered by the line of the code's message; or by what would
-- be right of a wrong check octet; or by their first fault
abbrev pub SaysToDigits : Bool → Bool → Mask → ℕ → List ℕ → Option DecodeFault → List ℕ → Type 0
SaysToDigits names upstream mask line digits None said = SaysIn names upstream mask digits said
SaysToDigits names upstream mask line digits (Some fault.Crc) said = (code : List ℕ) × (decode_of digits ≡ Ok code)
    × (length code ≡ 13) × HasWrongCheck mask code × (said ≡ check_line line mask code)
SaysToDigits names upstream mask line digits (Some fault) said =
    HasDecodeFault mask digits fault × (said ≡ error_line line fault)

-- the same of a text whose code is a unit's or not; or of one that would have to say it and doesn't
abbrev pub SaysToWay : Bool → Mask → ℕ → Option (Bool × List ℕ) → Option DecodeFault → List ℕ → Type 0
SaysToWay names mask line None told said = (told ≡ Some fault.Direction) × (said ≡ error_line line fault.Direction)
SaysToWay names mask line (Some way) told said = SaysToDigits names way.0 mask line (code_digits way.1) told said

-- a text that is no remark is answered so
abbrev pub SaysToText : Bool → Direction → Mask → ℕ → List ℕ → Option DecodeFault → List ℕ → Type 0
SaysToText names direction mask line text fault said = SaysToWay names mask line (directed direction text) fault said

-- a line without its carriage return is passed over, or answered, and counted
abbrev pub SaysOrPasses : DecodeState → List ℕ → List ℕ → DecodeState → Type 0
SaysOrPasses old text said new =
    ((is_remark text ≡ true) × (said ≡ []) × (new ≡ counted old))
    ⊎ ((is_remark text ≡ false) × (fault : Option DecodeFault)
    × SaysToText old.names old.direction old.mask (old.lines + 1) text fault said × (new ≡ after fault old))

-- what is said to a line; one that is too long to be looked at has the fault of its length
abbrev pub SaysToLine : DecodeState → Option (List ℕ) → List ℕ → DecodeState → Type 0
SaysToLine old None said new = (said ≡ error_line (old.lines + 1) fault.Length) × (new ≡ faulted fault.Length old)
SaysToLine old (Some line) said new = SaysOrPasses old (without_return line) said new

-- why no more lines can be taken: so many have come as can be counted
abbrev pub IsFull : DecodeState → Option (List ℕ) → Type 0
IsFull state line = state.lines ≡ most_lines

-- what is said to lines, each of which is answered whole or not at all
abbrev pub Decoding : Speech DecodeState
Decoding = WholeLines IsFull SaysToLine

-- it goes on to the end of the input
abbrev pub never : DecodeState → Bool
never state = false

-- what is answered at the end: the first line that had a fault, or why not all were answered
abbrev pub IsAnswer : Result LinesEnd LinesFault → DecodeState → Result (Option FaultAt) LinesFault → Type 0
IsAnswer (Ok end) new answer = answer ≡ Ok new.first
IsAnswer (Err fault) new answer = answer ≡ Err fault

-- each line of an input was answered, in their order, from where none had come, with names of the standard or without
pub record DecodesIn {R W : Type 0} (names : Bool) (direction : Direction) (mask : Mask) (from to : SourceState R)
    (before after : SinkState W) (answer : Result (Option FaultAt) LinesFault) : Type 0 where
  pub new : DecodeState
  pub end : Result LinesEnd LinesFault
  pub served : Serves Decoding never longest_line from to (opened_in names direction mask) new before after end
  pub told : IsAnswer end new answer

-- the same without, where all codes are of one direction
abbrev pub DecodesLines : {R W : Type 0} → Bool → Mask → SourceState R → SourceState R → SinkState W → SinkState W
    → Result (Option FaultAt) LinesFault → Type 0
DecodesLines upstream mask from to before after answer =
    DecodesIn false (direction_of upstream) mask from to before after answer
