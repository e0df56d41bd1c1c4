-- The further Alloc-IDs of a unit, in rising order (this profile's own rule).
use Rattle.std.specs.Prelude.{◌≡◌, ℕ, ◌<◌, ◌≤◌, Bool, false, List, length, slice_index_or, IsSome}
use Rattle.std.specs.Ordering.{nat_cmp}
use Rattle.std.specs.FinMap.{FinMap, from_entries, get, keys}
use Rattle.std.specs.FinSet.{FinSet, from_list}
use Rattle.gp_pools.specs.Limits.{first_alloc_id, last_alloc_id}
use Rattle.gp_pools.specs.Pool.{Pool, IsLeased, IsSettled}

-- from each further Alloc-ID to whether it is Leaving; else it is Held
abbrev pub AllocMap : Type 0
AllocMap = FinMap nat_cmp Bool

-- the further Alloc-IDs, held and leaving
abbrev pub numbers_of : AllocMap → FinSet nat_cmp
numbers_of allocs = from_list (keys allocs)

-- the map that a list makes
abbrev pub allocs_of : List (ℕ × Bool) → AllocMap
allocs_of entries = from_entries entries

-- the number at place i
abbrev pub number_at : List (ℕ × Bool) → ℕ → ℕ
number_at entries i = let entry = slice_index_or entries i (0, false) in entry.0

-- the numbers rise, so none comes twice
pub record IsRising (entries : List (ℕ × Bool)) : Type 0 where
  pub rising : (i j : ℕ) → i < j → j < length entries → number_at entries i < number_at entries j

-- this number is at place i
pub record IsPlaceOf (entries : List (ℕ × Bool)) (number i : ℕ) : Type 0 where
  pub within : i < length entries
  pub here : number_at entries i ≡ number

-- this number is at no place, and would go to place i
pub record IsGapFor (entries : List (ℕ × Bool)) (number i : ℕ) : Type 0 where
  pub within : i ≤ length entries
  pub before : (j : ℕ) → j < i → number_at entries j < number
  pub after : (j : ℕ) → i ≤ j → j < length entries → number < number_at entries j

-- each of a unit's further Alloc-IDs is leased in the pool, or each is settled there
abbrev pub AreLeased : Pool → AllocMap → Type 0
AreLeased pool allocs = (number : ℕ) → IsSome (get allocs number) → IsLeased pool number

abbrev pub AreSettled : Pool → AllocMap → Type 0
AreSettled pool allocs = (number : ℕ) → IsSome (get allocs number) → IsSettled pool number

-- each of them is one of the further Alloc-IDs
abbrev pub AreFurther : AllocMap → Type 0
AreFurther allocs = (number : ℕ) → IsSome (get allocs number) → (first_alloc_id ≤ number) × (number ≤ last_alloc_id)
