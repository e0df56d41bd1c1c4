-- What is said as an object to a line that should be the hexadecimal digits of a code (this profile's own rule). What
-- is passed over, what the digits are and what is wrong with them is as where words are said.
use Rattle.std.specs.Prelude.{◌≡◌, ◌⊎◌, ◌==◌, ℕ, ◌+◌, Bool, true, false, List, [], ◌∷◌, ◌++◌, Option, Some, None, Result, Ok, codes, length, slice_index, if◌then◌else◌}
use Rattle.hex.specs.Hex.{decode_of, encode_lower}
use Rattle.gp_flow.specs.declared.lines.LinesEnd.{LinesEnd}
use Rattle.gp_flow.specs.declared.fault.LinesFault.{LinesFault}
use Rattle.gp_flow.specs.Lines.{Serves, Speech, WholeLines, longest_line}
use Rattle.gp_stream.specs.Sink.{SinkState}
use Rattle.gp_stream.specs.Source.{SourceState}
use Rattle.gp_ploam.specs.declared.check.Mask.{Mask}
use Rattle.gp_ploam.specs.declared.message.Down.{Down}
use Rattle.gp_ploam.specs.declared.message.Up.{Up}
use Rattle.gp_ploam.specs.Down.{ReadsDown}
use Rattle.gp_ploam.specs.Mask.{mask_value}
use Rattle.gp_ploam.specs.Up.{ReadsUp}
use Rattle.gp_decode.specs.declared.decoder.FaultAt.{FaultAt}
use Rattle.gp_decode.specs.declared.direction.Direction.{Direction}
use Rattle.gp_decode.specs.declared.fault.DecodeFault.{DecodeFault}
use Rattle.gp_decode.specs.declared.fault.DecodeFault.TheVariants as fault
use Rattle.gp_decode.specs.Line.{HasDecodeFault, HasWrongCheck}
use Rattle.gp_decode.specs.Lines.{DecodeState, IsAnswer, IsFull, after, counted, fault_name, faulted, mask_text, never, opened_in, other_mask, wanted_check}
use Rattle.gp_decode.specs.LineText.{code_digits, directed, is_remark, without_return}
use Rattle.gp_json.specs.Message.{down_fields, down_name, key_text, text_field, up_fields, up_name}
use Rattle.gp_code_objects.specs.Object.{code_field, direction_word, error_field, error_object, object_begun, object_end}

-- how the object of a line with a code begins: whose it is, the code, and the name of its message
abbrev pub code_begun : ℕ → List ℕ → List ℕ → List ℕ → List ℕ
code_begun line direction code name =
    object_begun line ++ text_field (codes "direction") direction ++ code_field code
    ++ text_field (codes "message") name

-- the whole, with the fields of the message
abbrev pub code_object : ℕ → Bool → List ℕ → List ℕ → List ℕ → List ℕ
code_object line upstream code name fields =
    code_begun line (direction_word upstream) code name ++ fields ++ object_end

-- it shows the message that a code is read as, upstream or downstream, under the mask
abbrev pub ShowsCode : Bool → Mask → ℕ → List ℕ → List ℕ → Type 0
ShowsCode true mask line code said =
    (m : Up) × ReadsUp code (mask_value mask) m × (said ≡ code_object line true code (up_name m) (up_fields m))
ShowsCode false mask line code said =
    (m : Down) × ReadsDown code (mask_value mask) m × (said ≡ code_object line false code (down_name m) (down_fields m))

-- the field of what would be right of a code whose check octet is wrong under the mask: the other mask, under which it
-- is right, as a number; or else the octet that would be under this one, as two hexadecimal digits
abbrev pub check_field : Mask → List ℕ → List ℕ
check_field mask code =
    if wanted_check (other_mask mask) code == slice_index code 12
    then key_text (codes "right_under_mask") ++ mask_text (other_mask mask)
    else text_field (codes "wanted") (encode_lower (wanted_check mask code ∷ []))

-- the object of a line with such a code
abbrev pub check_object : ℕ → Mask → List ℕ → List ℕ
check_object line mask code =
    object_begun line ++ error_field (fault_name fault.Crc) ++ check_field mask code ++ object_end

-- the digits of a code with this fault, or none, are answered by the object of the code; or by what would be right of a
-- wrong check octet; or by their first fault
abbrev pub ShowsDigits : Bool → Mask → ℕ → List ℕ → Option DecodeFault → List ℕ → Type 0
ShowsDigits upstream mask line digits None said =
    (code : List ℕ) × (decode_of digits ≡ Ok code) × ShowsCode upstream mask line code said
ShowsDigits upstream mask line digits (Some fault.Crc) said = (code : List ℕ) × (decode_of digits ≡ Ok code)
    × (length code ≡ 13) × HasWrongCheck mask code × (said ≡ check_object line mask code)
ShowsDigits upstream mask line digits (Some fault) said =
    HasDecodeFault mask digits fault × (said ≡ error_object line (fault_name fault))

-- the same of a text whose code is a unit's or not; or of one that would have to say it and doesn't
abbrev pub ShowsWay : Mask → ℕ → Option (Bool × List ℕ) → Option DecodeFault → List ℕ → Type 0
ShowsWay mask line None told said =
    (told ≡ Some fault.Direction) × (said ≡ error_object line (fault_name fault.Direction))
ShowsWay mask line (Some way) told said = ShowsDigits way.0 mask line (code_digits way.1) told said

-- a text that is no remark is answered so
abbrev pub ShowsText : Direction → Mask → ℕ → List ℕ → Option DecodeFault → List ℕ → Type 0
ShowsText direction mask line text fault said = ShowsWay mask line (directed direction text) fault said

-- a line without its carriage return is passed over, or answered, and counted
abbrev pub ShowsOrPasses : DecodeState → List ℕ → List ℕ → DecodeState → Type 0
ShowsOrPasses old text said new =
    ((is_remark text ≡ true) × (said ≡ []) × (new ≡ counted old))
    ⊎ ((is_remark text ≡ false) × (fault : Option DecodeFault)
    × ShowsText old.direction old.mask (old.lines + 1) text fault said × (new ≡ after fault old))

-- what is said to a line; one that is too long to be looked at has the fault of its length
abbrev pub ShowsLine : DecodeState → Option (List ℕ) → List ℕ → DecodeState → Type 0
ShowsLine old None said new =
    (said ≡ error_object (old.lines + 1) (fault_name fault.Length)) × (new ≡ faulted fault.Length old)
ShowsLine old (Some line) said new = ShowsOrPasses old (without_return line) said new

-- what is said to lines, each of which is answered whole or not at all
abbrev pub Showing : Speech DecodeState
Showing = WholeLines IsFull ShowsLine

-- before the first line; a message is named by the standard wherever that has a name for it
abbrev pub opened_objects : Direction → Mask → DecodeState
opened_objects direction mask = opened_in true direction mask

-- each line of an input was answered by an object, in their order, from where none had come
pub record DecodesToObjects {R W : Type 0} (direction : Direction) (mask : Mask) (from to : SourceState R)
    (before after : SinkState W) (answer : Result (Option FaultAt) LinesFault) : Type 0 where
  pub new : DecodeState
  pub end : Result LinesEnd LinesFault
  pub served : Serves Showing never longest_line from to (opened_objects direction mask) new before after end
  pub told : IsAnswer end new answer
