-- Numbers in order, and where one stands among them (this profile's own rule).
-- Inside: no public contract cites this.
use Rattle.std.specs.Prelude.{◌≡◌, ℕ, ◌==◌, ◌&&◌, nat_lt, Bool, IsTrue, List, length, slice_index}
use Rattle.std.specs.List.Sorted.{IsNonDecreasing}
use Rattle.gp_fibre.specs.Schedule.{is_lost}

-- the numbers stand in ascending order, and the same ones are lost
pub record IsInOrder (given ordered : List ℕ) : Type 0 where
  pub ascending : IsNonDecreasing ordered
  pub same : (n : ℕ) → is_lost ordered n ≡ is_lost given n

-- the same ones are lost as among those that were given, and they stand in ascending order where that is told
pub record AreHeld (given numbers : List ℕ) (is_ordered : Bool) : Type 0 where
  pub same : (n : ℕ) → is_lost numbers n ≡ is_lost given n
  pub ascending : IsTrue is_ordered → IsNonDecreasing numbers

-- the number stands at this place
abbrev pub stands_at : List ℕ → ℕ → ℕ → Bool
stands_at ordered place number = nat_lt place (length ordered) && (slice_index ordered place == number)

-- the number is lost just where it stands at this place
abbrev pub IsPlaceOf : List ℕ → ℕ → ℕ → Type 0
IsPlaceOf ordered number place = is_lost ordered number ≡ stands_at ordered place number
