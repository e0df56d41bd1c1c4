-- What was sent of one kind, and how much of it was forgotten (this profile's own rule).
use Rattle.std.specs.Prelude.{◌≡◌, ℕ, ◌-◌, ◌≤◌, nat_lt, if◌then◌else◌, List, ◌++◌, Option, None, length, replicate, slice_get}

-- items of which those before the first number were forgotten, and now those before the second: the others are the same
pub record ItemsForget {T : Type 0} (before : ℕ) (old : List T) (after : ℕ) (new : List T) : Type 0 where
  pub more : before ≤ after
  pub many : length new ≡ length old
  pub others : (number : ℕ) → after ≤ number → slice_get new number ≡ slice_get old number

-- ---- the representation

-- in the place of each item that was forgotten stands this one, which nobody can ask for
abbrev pub with_blanks : {T : Type 0} → T → ℕ → List T → List T
with_blanks blank forgotten items = replicate forgotten blank ++ items

-- the item with this number, of those that are left
abbrev pub left_at : {T : Type 0} → ℕ → List T → ℕ → Option T
left_at forgotten items number = if nat_lt number forgotten then None else slice_get items (number - forgotten)
