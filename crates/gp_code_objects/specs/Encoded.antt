-- What is said as an object to a line that should be a message in words (this profile's own rule). What is passed over,
-- and what code words have, is as where the code alone is said.
use Rattle.std.specs.Prelude.{◌≡◌, ◌⊎◌, ℕ, ◌+◌, Bool, true, false, List, [], ◌++◌, Option, Some, None, Result, Ok, Err}
use Rattle.gp_flow.specs.declared.lines.LinesEnd.{LinesEnd}
use Rattle.gp_flow.specs.declared.fault.LinesFault.{LinesFault}
use Rattle.gp_flow.specs.Lines.{Serves, Speech, WholeLines, longest_line}
use Rattle.gp_stream.specs.Sink.{SinkState}
use Rattle.gp_stream.specs.Source.{SourceState}
use Rattle.gp_ploam.specs.declared.check.Mask.{Mask}
use Rattle.gp_lines.specs.declared.fault.LineFault.TheVariants.{Long}
use Rattle.gp_decode.specs.LineText.{is_remark, without_return}
use Rattle.gp_encode.specs.declared.encoder.WordsFaultAt.{WordsFaultAt}
use Rattle.gp_encode.specs.declared.fault.WordsFault.{WordsFault}
use Rattle.gp_encode.specs.declared.fault.WordsFault.TheVariants.{Part}
use Rattle.gp_encode.specs.Encoding.{Encodes}
use Rattle.gp_encode.specs.Lines.{EncodeState, IsAnswer, IsFull, after, fault_name, never, opened_encode}
use Rattle.gp_code_objects.specs.Object.{code_field, error_object, object_begun, object_end}

-- the object of a line whose words have this code
abbrev pub words_object : ℕ → List ℕ → List ℕ
words_object line code = object_begun line ++ code_field code ++ object_end

-- a text with this fault, or none, is answered by the object of its code, or by that of its fault
abbrev pub ShowsWords : Bool → Mask → ℕ → List ℕ → Option WordsFault → List ℕ → Type 0
ShowsWords upstream mask line text None said =
    (code : List ℕ) × Encodes upstream mask text (Ok code) × (said ≡ words_object line code)
ShowsWords upstream mask line text (Some fault) said =
    Encodes upstream mask text (Err fault) × (said ≡ error_object line (fault_name fault))

-- a line without its carriage return is passed over, or answered, and counted
abbrev pub ShowsOrPasses : EncodeState → List ℕ → List ℕ → EncodeState → Type 0
ShowsOrPasses old text said new =
    ((is_remark text ≡ true) × (said ≡ []) × (new ≡ after None old))
    ⊎ ((is_remark text ≡ false) × (fault : Option WordsFault)
    × ShowsWords old.upstream old.mask (old.lines + 1) text fault said × (new ≡ after fault old))

-- what is said to a line; one that is too long to be looked at has that fault
abbrev pub ShowsLine : EncodeState → Option (List ℕ) → List ℕ → EncodeState → Type 0
ShowsLine old None said new =
    (said ≡ error_object (old.lines + 1) (fault_name (Part Long))) × (new ≡ after (Some (Part Long)) old)
ShowsLine old (Some line) said new = ShowsOrPasses old (without_return line) said new

-- what is said to lines, each of which is answered whole or not at all
abbrev pub Showing : Speech EncodeState
Showing = WholeLines IsFull ShowsLine

-- each line of an input was answered by an object, in their order, from where none had come
pub record EncodesToObjects {R W : Type 0} (upstream : Bool) (mask : Mask) (from to : SourceState R)
    (before after : SinkState W) (answer : Result (Option WordsFaultAt) LinesFault) : Type 0 where
  pub new : EncodeState
  pub end : Result LinesEnd LinesFault
  pub served : Serves Showing never longest_line from to (opened_encode upstream mask) new before after end
  pub told : IsAnswer end new answer
