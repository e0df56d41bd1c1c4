-- What writing a text before what a buffer holds means (this profile's own rule).
-- Inside: no public contract cites this.
use Rattle.std.specs.Prelude.{◌≡◌, ◌+◌, ◌≤◌, ◌++◌, ℕ, List, drop, length}

-- the text ends where what stands from `end` on begins, and begins at `start`; it is no longer than the bound
pub record Writes (bound : ℕ) (text : List ℕ) (old : List ℕ) (end : ℕ) (new : List ℕ) (start : ℕ) : Type 0 where
  pub stands : drop start new ≡ text ++ drop end old
  pub begins : start + length text ≡ end
  pub short : length text ≤ bound
  pub size : length new ≡ length old
