-- What words are encoded to (this profile's own rule).
use Rattle.std.specs.Prelude.{◌≡◌, ℕ, Bool, true, false, List, Result, Ok, Err}
use Rattle.gp_ploam.specs.declared.check.Mask.{Mask}
use Rattle.gp_ploam.specs.declared.message.Down.{Down}
use Rattle.gp_ploam.specs.declared.message.Up.{Up}
use Rattle.gp_ploam.specs.Mask.{mask_value}
use Rattle.gp_ploam.specs.Down.{IsProperDown, ReadsDown, code_of_down}
use Rattle.gp_ploam.specs.Up.{IsProperUp, ReadsUp, code_of_up}
use Rattle.gp_encode.specs.declared.fault.WordsFault.{WordsFault}
use Rattle.gp_encode.specs.declared.fault.WordsFault.TheVariants.{Named, Part}
use Rattle.gp_encode.specs.Words.{down_of, up_of}

-- the words say a message of the line terminal, and the code is that message's, and is read as it; or the first part
-- with a fault has this one; or the octets of an `Other` are those of a message that has a name
abbrev pub EncodesDown : Mask → List ℕ → Result (List ℕ) WordsFault → Type 0
EncodesDown mask text (Ok code) =
    (m : Down) × (down_of text ≡ Ok m) × (code ≡ code_of_down m (mask_value mask)) × ReadsDown code (mask_value mask) m
EncodesDown mask text (Err (Part fault)) = down_of text ≡ Err fault
EncodesDown mask text (Err Named) = (m : Down) × (down_of text ≡ Ok m) × (IsProperDown m → ⊥)

-- the same of a message of a unit
abbrev pub EncodesUp : Mask → List ℕ → Result (List ℕ) WordsFault → Type 0
EncodesUp mask text (Ok code) =
    (m : Up) × (up_of text ≡ Ok m) × (code ≡ code_of_up m (mask_value mask)) × ReadsUp code (mask_value mask) m
EncodesUp mask text (Err (Part fault)) = up_of text ≡ Err fault
EncodesUp mask text (Err Named) = (m : Up) × (up_of text ≡ Ok m) × (IsProperUp m → ⊥)

-- what words are encoded to, upstream or downstream, under the mask
abbrev pub Encodes : Bool → Mask → List ℕ → Result (List ℕ) WordsFault → Type 0
Encodes true mask text answer = EncodesUp mask text answer
Encodes false mask text answer = EncodesDown mask text answer
