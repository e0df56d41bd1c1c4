-- A writer that compares, and what it knows (this profile's own rule).
use Rattle.std.specs.Prelude.{◌≡◌, ℕ, ◌<◌, ◌≤◌, Bool, true, false, List, ◌++◌, length, take, Option, None, Some}
use Rattle.std.specs.Io.KnownBytes.{Consumes, IsAtEnd}
use Rattle.gp_compare.specs.declared.difference.Difference.{Difference}
use Rattle.gp_compare.specs.declared.fault.CompareFault.{CompareFault}
use Rattle.gp_compare.specs.Ahead.{AheadState, StopsBy}
use Rattle.gp_compare.specs.Difference.{Differs}
use Rattle.gp_compare.specs.Place.{PlaceState, behind, front}
use Rattle.gp_compare.specs.Shown.{show, shown_view}

-- a writer that compares
pub record ComparerState : Type 0 where
  -- all octets that it took
  pub taken : List ℕ
  -- where they are not as expected, if they aren't
  pub difference : Option Difference
  -- why nothing is known of what it takes, if so
  pub fault : Option CompareFault

-- what was taken is all that is expected, to the last octet; where that is known, it is that
pub record IsAll (expected : Option (List ℕ)) (taken : List ℕ) : Type 0 where
  -- what is left of what is expected
  pub after : Option (List ℕ)
  pub read : Consumes expected after taken
  pub end : IsAtEnd after

-- how a text compares: it is all that is expected, or it differs
abbrev pub ComparesAs : Option (List ℕ) → List ℕ → Option Difference → Type 0
ComparesAs expected taken None = IsAll expected taken
ComparesAs expected taken (Some difference) = Differs expected taken difference

-- what was taken differs from what is expected in an octet that was taken
pub record DiffersWithin (expected : Option (List ℕ)) (taken : List ℕ) (difference : Difference) : Type 0 where
  pub differs : Differs expected taken difference
  pub some : 0 < length differs.right

-- nothing more is taken: it differs, or nothing is known of it any more
abbrev pub Refuses : ComparerState → Type 0
Refuses comparer = comparer.difference ≡ None → comparer.fault ≡ None → ⊥

-- so many of the octets were taken, one at least; or none, and none will be
abbrev pub TakesCount : ComparerState → ComparerState → List ℕ → Option ℕ → Type 0
TakesCount old new octets None = (new.taken ≡ old.taken) × Refuses new
TakesCount old new octets (Some count) =
    (0 < count) × (count ≤ length octets) × (new.taken ≡ old.taken ++ take count octets)

-- ---- what stands inside

-- octets come behind a difference, and are shown as far as the line is
pub record ShowsBehind (old new : Difference) (octets : List ℕ) : Type 0 where
  pub line : new.line ≡ old.line
  pub octet : new.octet ≡ old.octet
  pub expected : new.expected ≡ old.expected
  pub got : shown_view new.got ≡ show (shown_view old.got) octets

abbrev pub TakesBehind : Difference → Difference → List ℕ → Bool → Type 0
TakesBehind old new octets true = ShowsBehind old new octets
TakesBehind old new octets false = new ≡ old

-- what was taken is as expected so far, and the rest of that is read ahead
pub record IsSame {R : Type 0} (expected : Option (List ℕ)) (taken : List ℕ) (ahead : AheadState R)
    (at : PlaceState) : Type 0 where
  pub read : Consumes expected ahead.source.remaining (taken ++ ahead.rest)
  pub place : at ≡ behind front taken

abbrev pub Knows : {R : Type 0} → Option CompareFault → Option Difference → Option (List ℕ) → List ℕ → AheadState R
    → PlaceState → Type 0
Knows (Some fault) difference expected taken ahead place = StopsBy ahead fault
Knows None None expected taken ahead place = IsSame expected taken ahead place
Knows None (Some difference) expected taken ahead place = DiffersWithin expected taken difference
