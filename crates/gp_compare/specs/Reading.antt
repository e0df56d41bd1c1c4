-- What is expected is read beside what comes (this profile's own rule).
-- Inside: no public contract cites this.
use Rattle.std.specs.Prelude.{◌≡◌, ◌≢◌, ℕ, ◌<◌, ◌≤◌, List, [], ◌++◌, length, slice_index, take, Option, None, Some}
use Rattle.std.specs.Io.KnownBytes.{Consumes, IsAtEnd}
use Rattle.gp_compare.specs.declared.difference.Difference.{Difference}
use Rattle.gp_compare.specs.declared.shown.LineEnd.TheVariants as ends
use Rattle.gp_compare.specs.declared.step.Step.{Step}
use Rattle.gp_compare.specs.declared.step.Step.TheVariants.{Same, Other}
use Rattle.gp_compare.specs.Ahead.{AheadState, IsOver}
use Rattle.gp_compare.specs.Difference.{HeadsDiffer, ShowsBoth}
use Rattle.gp_compare.specs.Place.{PlaceState, behind}
use Rattle.gp_compare.specs.Shown.{Shown, show}

-- so many octets at the front of two texts are the same, and the next are not, where both have one
pub record IsCommon (one other : List ℕ) (count : ℕ) : Type 0 where
  pub within_one : count ≤ length one
  pub within_other : count ≤ length other
  pub same : take count one ≡ take count other
  pub next : count < length one → count < length other → slice_index one count ≢ slice_index other count

-- so many octets at the front are as expected, and were passed
pub record TakesSame {R : Type 0} (before after : AheadState R) (old new : PlaceState) (octets : List ℕ) (count : ℕ)
    : Type 0 where
  pub few : count ≤ length octets
  -- what was read meanwhile
  pub read : List ℕ
  pub consumed : Consumes before.source.remaining after.source.remaining read
  pub rest : before.rest ++ read ≡ take count octets ++ after.rest
  pub place : new ≡ behind old (take count octets)
  -- where none is, the first is another one, or nothing more is expected
  pub other : count ≡ 0 → 0 < length octets → HeadsDiffer after.rest octets
  pub over : count ≡ 0 → after.rest ≡ [] → IsOver after

-- so far what is expected is shown
pub record Showing {R : Type 0} (before now : AheadState R) (old line : Shown) : Type 0 where
  -- what was read meanwhile
  pub read : List ℕ
  pub consumed : Consumes before.source.remaining now.source.remaining read
  -- what was passed of it
  pub passed : List ℕ
  pub split : passed ++ now.rest ≡ before.rest ++ read
  pub shown : line ≡ show old passed
  pub over : now.rest ≡ [] → IsOver now
  pub kept : before.rest ≡ [] → (read ≡ []) × (now ≡ before)

-- what is expected is shown, to the end of the line or as far as it is shown
pub record ShowsRest {R : Type 0} (before after : AheadState R) (old new : Shown) : Type 0 where
  -- what was read meanwhile
  pub read : List ℕ
  pub consumed : Consumes before.source.remaining after.source.remaining read
  pub shows : new ≡ show old (before.rest ++ read)
  pub whole : new.end ≡ ends.Text → IsAtEnd after.source.remaining
  -- where there was no rest nothing was read
  pub kept : before.rest ≡ [] → (read ≡ []) × (after ≡ before)

-- both lines are shown at this place, with what comes there
pub record ShowsDifference {R : Type 0} (place : PlaceState) (before after : AheadState R) (came : List ℕ)
    (difference : Difference) : Type 0 where
  -- what was read meanwhile
  pub read : List ℕ
  pub consumed : Consumes before.source.remaining after.source.remaining read
  pub shows : ShowsBoth place (before.rest ++ read) came difference
  pub whole : difference.expected.end ≡ ends.Text → IsAtEnd after.source.remaining

-- the same, and where there was no rest nothing was read
pub record ShowsHere {R : Type 0} (place : PlaceState) (before after : AheadState R) (came : List ℕ)
    (difference : Difference) : Type 0 where
  pub shown : ShowsDifference place before after came difference
  pub kept : before.rest ≡ [] → (shown.read ≡ []) × (after ≡ before)

-- the first octet that comes is not as expected there: what was read is the rest before and all that is expected behind
-- it
pub record IsOther {R : Type 0} (place : PlaceState) (before after : AheadState R) (came : List ℕ)
    (difference : Difference) : Type 0 where
  pub shows : ShowsDifference place before after came difference
  pub other : HeadsDiffer (before.rest ++ shows.read) came
  pub ended : before.rest ++ shows.read ≡ [] → IsAtEnd after.source.remaining

-- a step by octets that come
abbrev pub Steps : {R : Type 0} → AheadState R → AheadState R → PlaceState → PlaceState → List ℕ → Step → Type 0
Steps before after old new octets (Same count) = TakesSame before after old new octets count × (0 < count)
Steps before after old new octets (Other difference) = IsOther old before after octets difference

-- nothing more is expected
pub record IsEnd {R : Type 0} (before after : AheadState R) : Type 0 where
  pub read : List ℕ
  pub consumed : Consumes before.source.remaining after.source.remaining read
  pub none : before.rest ++ read ≡ []
  pub over : IsOver after

-- what comes ends
abbrev pub EndsAs : {R : Type 0} → AheadState R → AheadState R → PlaceState → Option Difference → Type 0
EndsAs before after place None = IsEnd before after
EndsAs before after place (Some difference) = IsOther place before after [] difference
