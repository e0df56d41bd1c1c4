-- What is said to lines each of which should be a message in words (this profile's own rule).
use Rattle.std.specs.Prelude.{◌≡◌, ◌⊎◌, ℕ, ◌+◌, Bool, true, false, List, [], ◌++◌, Option, Some, None, Result, Ok, Err, codes, decimal}
use Rattle.hex.specs.Hex.{encode_lower}
use Rattle.gp_flow.specs.declared.lines.LinesEnd.{LinesEnd}
use Rattle.gp_flow.specs.declared.fault.LinesFault.{LinesFault}
use Rattle.gp_flow.specs.Lines.{Serves, Speech, WholeLines, longest_line, most_lines}
use Rattle.gp_stream.specs.Sink.{SinkState}
use Rattle.gp_stream.specs.Source.{SourceState}
use Rattle.gp_ploam.specs.declared.check.Mask.{Mask}
use Rattle.gp_lines.specs.declared.fault.LineFault.{LineFault}
use Rattle.gp_lines.specs.declared.fault.LineFault.TheVariants as parts
use Rattle.gp_decode.specs.LineText.{is_remark, without_return}
use Rattle.gp_encode.specs.declared.encoder.WordsFaultAt.{WordsFaultAt}
use Rattle.gp_encode.specs.declared.fault.WordsFault.{WordsFault}
use Rattle.gp_encode.specs.declared.fault.WordsFault.TheVariants.{Named, Part}
use Rattle.gp_encode.specs.Encoding.{Encodes}

-- the name of a fault of a part
abbrev pub part_name : LineFault → List ℕ
part_name parts.Word = codes "word"
part_name parts.Number = codes "number"
part_name parts.Serial = codes "serial"
part_name parts.Hex = codes "hex"
part_name parts.Range = codes "range"
part_name parts.Long = codes "long"
part_name parts.Space = codes "space"

-- the name of a fault of words
abbrev pub fault_name : WordsFault → List ℕ
fault_name (Part fault) = part_name fault
fault_name Named = codes "named"

-- what is said to a line with a fault: the line's number, counted from 1, and the fault's name
abbrev pub error_line : ℕ → WordsFault → List ℕ
error_line line fault = codes "error " ++ decimal line ++ codes " " ++ fault_name fault ++ codes "\n"

-- where it stands: the direction and the mask of the codes, how many lines came, and the first that had a fault
pub record EncodeState : Type 0 where
  pub upstream : Bool
  pub mask : Mask
  pub lines : ℕ
  pub first : Option WordsFaultAt

-- before the first line
abbrev pub opened_encode : Bool → Mask → EncodeState
opened_encode upstream mask = record { upstream = upstream; mask = mask; lines = 0; first = None }

-- the first of two, if there is one
abbrev pub first_of : Option WordsFaultAt → WordsFaultAt → WordsFaultAt
first_of None at = at
first_of (Some first) at = first

-- one line more came, which had this fault, or none
abbrev pub after : Option WordsFault → EncodeState → EncodeState
after None state = record state { lines = state.lines + 1 }
after (Some fault) state = record state {
  lines = state.lines + 1;
  first = Some (first_of state.first (record { line = state.lines + 1; fault = fault }));
}

-- a text with this fault, or none, is answered by the line of its code, or by its fault
abbrev pub SaysToText : Bool → Mask → ℕ → List ℕ → Option WordsFault → List ℕ → Type 0
SaysToText upstream mask line text None said =
    (code : List ℕ) × Encodes upstream mask text (Ok code) × (said ≡ encode_lower code ++ codes "\n")
SaysToText upstream mask line text (Some fault) said =
    Encodes upstream mask text (Err fault) × (said ≡ error_line line fault)

-- a line without its carriage return is passed over, or answered, and counted
abbrev pub SaysOrPasses : EncodeState → List ℕ → List ℕ → EncodeState → Type 0
SaysOrPasses old text said new =
    ((is_remark text ≡ true) × (said ≡ []) × (new ≡ after None old))
    ⊎ ((is_remark text ≡ false) × (fault : Option WordsFault)
    × SaysToText old.upstream old.mask (old.lines + 1) text fault said × (new ≡ after fault old))

-- what is said to a line; one that is too long to be looked at has that fault
abbrev pub SaysToLine : EncodeState → Option (List ℕ) → List ℕ → EncodeState → Type 0
SaysToLine old None said new =
    (said ≡ error_line (old.lines + 1) (Part parts.Long)) × (new ≡ after (Some (Part parts.Long)) old)
SaysToLine old (Some line) said new = SaysOrPasses old (without_return line) said new

-- why no more lines can be taken: so many have come as can be counted
abbrev pub IsFull : EncodeState → Option (List ℕ) → Type 0
IsFull state line = state.lines ≡ most_lines

-- what is said to lines, each of which is answered whole or not at all
abbrev pub Encoding : Speech EncodeState
Encoding = WholeLines IsFull SaysToLine

-- it goes on to the end of the input
abbrev pub never : EncodeState → Bool
never state = false

-- what is answered at the end: the first line that had a fault, or why not all were answered
abbrev pub IsAnswer : Result LinesEnd LinesFault → EncodeState → Result (Option WordsFaultAt) LinesFault → Type 0
IsAnswer (Ok end) new answer = answer ≡ Ok new.first
IsAnswer (Err fault) new answer = answer ≡ Err fault

-- each line of an input was answered, in their order, from where none had come
pub record EncodesLines {R W : Type 0} (upstream : Bool) (mask : Mask) (from to : SourceState R)
    (before after : SinkState W) (answer : Result (Option WordsFaultAt) LinesFault) : Type 0 where
  pub new : EncodeState
  pub end : Result LinesEnd LinesFault
  pub served : Serves Encoding never longest_line from to (opened_encode upstream mask) new before after end
  pub told : IsAnswer end new answer
