-- A line as a JSON object (this profile's own rule). The line comes without its line feed, and the object ends with
-- one.
use Rattle.std.specs.Prelude.{◌≡◌, ◌⊎◌, ◌&&◌, ℕ, List, [], ◌∷◌, ◌++◌, Option, None, Some, if◌then◌else◌, codes, decimal}
use Rattle.std.specs.Option.{option_map}
use Rattle.std.specs.Str.{bytes_eq}
use Rattle.gp_ploam.specs.declared.check.Mask.{Mask}
use Rattle.gp_lines.specs.Parts.{parts_of}
use Rattle.gp_json.specs.declared.slot.Slot.TheVariants.{Port}
use Rattle.gp_json.specs.Spelling.{is_number, quoted}
use Rattle.gp_json.specs.Fields.{TellsParts}
use Rattle.gp_json.specs.Units.{UnitFields, unit_fields_object, unit_of}

-- how many frames the port has had, if that is told
abbrev pub frames_field : Option ℕ → List ℕ
frames_field None = []
frames_field (Some frames) = codes "\"frames\":" ++ decimal frames ++ codes ","

-- a line that tells nothing of a trace
abbrev pub line_object : List ℕ → List ℕ
line_object text = codes "{\"line\":" ++ quoted text ++ codes "}\n"

-- the fields of a line of a trace as gp_trace spells it; any other line as one field
abbrev pub TellsObject : Mask → Option ℕ → List ℕ → List ℕ → Type 0
TellsObject mask frames text said =
    ((fields : List ℕ) × TellsParts mask Port (parts_of text) fields
    × (said ≡ codes "{" ++ frames_field frames ++ fields ++ codes "}\n"))
    ⊎ (((fields : List ℕ) → TellsParts mask Port (parts_of text) fields → ⊥) × (said ≡ line_object text))

-- the only part
abbrev pub one_of : List (List ℕ) → Option (List ℕ)
one_of [] = None
one_of (part ∷ []) = Some part
one_of (part ∷ another ∷ others) = None

-- both of two parts
abbrev pub two_of : List (List ℕ) → Option (List ℕ × List ℕ)
two_of [] = None
two_of (part ∷ others) = option_map (λ (second : List ℕ). (part, second)) (one_of others)

-- the number of a line that is no turn, and its fault
abbrev pub error_behind : List ℕ → Option (List ℕ × List ℕ) → Option (List ℕ × List ℕ)
error_behind word None = None
error_behind word (Some parts) =
    if bytes_eq word (codes "error") && is_number parts.0 then Some parts else None

-- the same, where the line is how one that is no turn is answered
abbrev pub error_of : List (List ℕ) → Option (List ℕ × List ℕ)
error_of [] = None
error_of (word ∷ others) = error_behind word (two_of others)

-- the number of a line that is done
abbrev pub done_behind : List ℕ → Option (List ℕ) → Option (List ℕ)
done_behind word None = None
done_behind word (Some line) = if bytes_eq word (codes "done") && is_number line then Some line else None

-- the same, where the line tells that one is done
abbrev pub done_of : List (List ℕ) → Option (List ℕ)
done_of [] = None
done_of (word ∷ others) = done_behind word (one_of others)

-- what is told of a unit, or any other line
abbrev pub unit_object : Option UnitFields → List ℕ → List ℕ
unit_object None text = line_object text
unit_object (Some unit) text = unit_fields_object unit

-- the number of a line that is done; else a line of a unit, or any other
abbrev pub done_object : Option (List ℕ) → List ℕ → List ℕ
done_object None text = unit_object (unit_of (parts_of text)) text
done_object (Some line) text = codes "{\"done\":" ++ line ++ codes "}\n"

-- the number of a line that is no turn, and its fault; else a line that is done, that of a unit, or any other
abbrev pub error_object : Option (List ℕ × List ℕ) → List ℕ → List ℕ
error_object None text = done_object (done_of (parts_of text)) text
error_object (Some (line, kind)) text = codes "{\"error\":" ++ quoted kind ++ codes ",\"line\":" ++ line ++ codes "}\n"

-- a line that is none of a trace
abbrev pub other_object : List ℕ → List ℕ
other_object text = error_object (error_of (parts_of text)) text
