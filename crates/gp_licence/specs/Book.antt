-- What a licence book shows (this profile's own rule).
use Rattle.std.specs.Prelude.{ℕ}

-- the licences that nobody holds, and all that it was made with
pub record BookState : Type 0 where
  pub free : ℕ
  pub total : ℕ
