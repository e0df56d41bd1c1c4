-- Further Alloc-IDs in eight places (this profile's own rule).
use Rattle.std.specs.Prelude.{◌≡◌, ℕ, ◌-◌, ◌≤◌, Bool, List, [], ◌∷◌, ◌++◌, length, map, replicate, Option, None, Some}
use Rattle.std.specs.FinSet.{FinSet, from_list}
use Rattle.std.specs.Ordering.{nat_cmp}
use Rattle.gp_pools.specs.Allocs.{IsRising}

-- a unit has at most this many
abbrev pub max_allocs : ℕ
max_allocs = 8

-- what stands in the places, in order
abbrev pub filled : {A : Type 0} → List (Option A) → List A
filled [] = []
filled (None ∷ slots) = filled slots
filled (Some item ∷ slots) = item ∷ filled slots

-- the Alloc-IDs that stand in the places
abbrev pub numbers_in : List (Option (ℕ × Bool)) → FinSet nat_cmp
numbers_in slots = from_list (map (λ entry. entry.0) (filled slots))

-- these items in the first places, and nothing in the others
abbrev pub slots_of : {A : Type 0} → List A → List (Option A)
slots_of items = map Some items ++ replicate (max_allocs - length items) None

-- Alloc-IDs that rise, in the first places
pub record AreSlots (slots : List (Option (ℕ × Bool))) : Type 0 where
  pub rising : IsRising (filled slots)
  pub first : slots_of (filled slots) ≡ slots
  pub few : length (filled slots) ≤ max_allocs
