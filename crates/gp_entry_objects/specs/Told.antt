-- What is told as JSON of the line that a trace has of an entry (this profile's own rule): its fields, and never the
-- line as one text.
use Rattle.std.specs.Prelude.{◌≡◌, ℕ, List, ◌++◌, Option, codes}
use Rattle.gp_ploam.specs.declared.check.Mask.{Mask}
use Rattle.gp_lines.specs.Parts.{parts_of}
use Rattle.gp_json.specs.declared.slot.Slot.TheVariants.{Port}
use Rattle.gp_json.specs.Fields.{TellsParts}
use Rattle.gp_json.specs.Object.{TellsObject, frames_field}

-- an object has the fields of a text's parts, behind how many frames its port has had, if that is told
abbrev pub IsOfParts : Mask → Option ℕ → List ℕ → List ℕ → Type 0
IsOfParts told frames text said =
    (fields : List ℕ) × TellsParts told Port (parts_of text) fields
    × (said ≡ codes "{" ++ frames_field frames ++ fields ++ codes "}\n")

-- a line with its line feed, whose codes are told under this mask, has fields, and whatever is told of it has them
pub record IsToldByFields (told : Mask) (line : List ℕ) : Type 0 where
  pub text : List ℕ
  pub ends : line ≡ text ++ codes "\n"
  pub fields : List ℕ
  pub are : TellsParts told Port (parts_of text) fields
  pub objects : (frames : Option ℕ) (said : List ℕ) → TellsObject told frames text said
      → IsOfParts told frames text said
