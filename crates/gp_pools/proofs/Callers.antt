-- What a caller knows of its leases.
use Rattle.std.proofs.Common.{ℕ, Bool, sym, ap, ◌∙◌, inl, inr, is_some, IsSome}
use Rattle.std.proofs.lemmas.Bool.{cases_eq, false≢true}
use Rattle.std.specs.Ordering.{nat_cmp}
use Rattle.std.specs.FinMap as map
use Rattle.gp_pools.specs.Allocs.{AllocMap, AreLeased}
use Rattle.gp_pools.specs.Pool.{Pool, IsLeased}
use Rattle.gp_pools.proofs.Further.{get-insert_other}

none_there : (number : ℕ) → IsSome (map.get (map.empty {X = Bool} {R = nat_cmp}) number) → ⊥
none_there number has = false≢true (sym (ap is_some (map.get-empty nat_cmp number)) ∙ has)

-- no Alloc-IDs
pub leased_none : (pool : Pool) → AreLeased pool map.empty
leased_none pool number has = absurd (none_there number has)

-- an Alloc-ID more
pub leased_with : (pool : Pool) (m : AllocMap) (alloc : ℕ) (leaving : Bool) → AreLeased pool m → IsLeased pool alloc → AreLeased pool (map.insert m alloc leaving)
leased_with pool m alloc leaving all has number has_it = elim (cases_eq number alloc) [
  | inl same ↦ rw same has
  | inr other ↦ all number (ap is_some (sym (get-insert_other m alloc leaving number other)) ∙ has_it)
]
