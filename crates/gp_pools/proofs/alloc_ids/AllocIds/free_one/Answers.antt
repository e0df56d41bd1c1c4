use Rattle.std.proofs.Common.{◌≡◌, ◌+◌, ◌-◌, ℕ, arith, false, IfNone, Option, None, Some}
use Rattle.std.specs.Ordering.{nat_cmp}
use Rattle.std.specs.FinSet as set
use Rattle.gp_pools.specs.Pool.{HasRoom, IsFree, Pool}
use Rattle.gp_pools.proofs.Pools.{free_has_room}
use Rattle.gp_pools.proofs.alloc_ids.AllocIds.free_one.Goals as goal

none_free : (pool : Pool) (found : Option ℕ) → ((n : ℕ) → IsFree pool n → HasRoom pool)
    → IfNone found ((n : ℕ) → IsFree pool n → set.contains (set.empty {R = nat_cmp}) n ≡ false → HasRoom pool → ⊥) → IfNone found ((n : ℕ) → IsFree pool n → ⊥)
none_free pool None room none = λ n free. none n free (set.contains-empty nat_cmp n) (room n free)
none_free pool (Some n) room none = none

pub returns-clause-none : goal.returns-clause-none
returns-clause-none c =
    let pool = c.self.inside.pool in
    let size : pool.limit ≡ pool.last + 1 - pool.first = omega (arith, c.self.invariant.0, c.self.invariant.2) in
    rw (← c.self.view_is) (none_free pool c.least_free.result (free_has_room pool c.least_free.ensures.sound size) (rw c.new.ensures at c.least_free.ensures.none))
