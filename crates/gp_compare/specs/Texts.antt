-- A text is compared with what is expected (this profile's own rule).
use Rattle.std.specs.Prelude.{◌≡◌, ℕ, Bool, true, List, [], ◌++◌, Option, None, Some}
use Rattle.gp_compare.specs.declared.difference.Difference.{Difference}
use Rattle.gp_compare.specs.Comparer.{IsAll}
use Rattle.gp_compare.specs.Difference.{Differs}

-- a text was handed in: all of it, or a part at its front
pub record HandsIn (old new text : List ℕ) (all : Bool) : Type 0 where
  pub left : List ℕ
  pub taken : old ++ text ≡ new ++ left
  pub none : all ≡ true → left ≡ []

-- the text, as far as it was taken, differs: in an octet of it, or since it ends where more is expected
pub record TextDiffers (expected : Option (List ℕ)) (text : List ℕ) (difference : Difference) : Type 0 where
  pub came : List ℕ
  pub left : List ℕ
  pub split : text ≡ came ++ left
  pub differs : Differs expected came difference
  pub ended : differs.right ≡ [] → left ≡ []

-- the text is all that is expected, to the last octet, or it differs
abbrev pub ComparesText : Option (List ℕ) → List ℕ → Option Difference → Type 0
ComparesText expected text None = IsAll expected text
ComparesText expected text (Some difference) = TextDiffers expected text difference
