-- Where two texts differ the first time (this profile's own rule).
use Rattle.std.specs.Prelude.{◌≡◌, ◌≢◌, ℕ, List, [], ◌∷◌, ◌++◌, Option}
use Rattle.std.specs.Io.KnownBytes.{Consumes, IsAtEnd}
use Rattle.gp_compare.specs.declared.difference.Difference.{Difference}
use Rattle.gp_compare.specs.declared.shown.LineEnd.TheVariants as ends
use Rattle.gp_compare.specs.Place.{PlaceState, behind, front, line_at, octet_at}
use Rattle.gp_compare.specs.Shown.{show, shown_at, shown_view}

-- two texts differ in their first octets, or one of them has none
abbrev pub HeadsDiffer : List ℕ → List ℕ → Type 0
HeadsDiffer [] [] = ⊥
HeadsDiffer [] (b ∷ right) = Unit {0}
HeadsDiffer (a ∷ left) [] = Unit {0}
HeadsDiffer (a ∷ left) (b ∷ right) = a ≢ b

-- at this place come these octets in the place of those that are expected, and both lines are shown
pub record ShowsBoth (place : PlaceState) (left right : List ℕ) (difference : Difference) : Type 0 where
  pub line : difference.line ≡ line_at place
  pub octet : difference.octet ≡ octet_at place
  pub expected : shown_view difference.expected ≡ show (shown_at place) left
  pub got : shown_view difference.got ≡ show (shown_at place) right

-- what came is at first as expected, and then isn't
pub record Differs (expected : Option (List ℕ)) (came : List ℕ) (difference : Difference) : Type 0 where
  -- what is the same
  pub common : List ℕ
  -- what is expected behind that, as far as it was read, and what came
  pub left : List ℕ
  pub right : List ℕ
  -- what is left of what is expected
  pub after : Option (List ℕ)
  pub read : Consumes expected after (common ++ left)
  pub got : came ≡ common ++ right
  pub other : HeadsDiffer left right
  pub shows : ShowsBoth (behind front common) left right difference
  -- where nothing more is expected, or the line that is shown has no end, nothing is left of it
  pub ended : left ≡ [] → IsAtEnd after
  pub whole : difference.expected.end ≡ ends.Text → IsAtEnd after
