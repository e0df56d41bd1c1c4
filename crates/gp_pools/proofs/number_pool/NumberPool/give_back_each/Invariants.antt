use Rattle.std.proofs.Common.{◌≡◌, ℕ, ◌≤◌, ◌<◌, length, take}
use Rattle.gp_pools.specs.Pool.{IsLeased}
use Rattle.gp_pools.specs.Allocs.{number_at}
use Rattle.gp_pools.specs.Slots.{filled}
use Rattle.gp_pools.proofs.Slots.{filled_before}
use Rattle.gp_pools.proofs.Each.{give_back_each}
use Rattle.gp_pools.proofs.number_pool.NumberPool.give_back_each.Given as goal

-- the numbers of the places so far are given back
abbrev pub invariant-loop-slot : goal.invariant-loop-slot
invariant-loop-slot g l = record {
  pool : l.self ≡ give_back_each l.fn.self (take (filled_before l.slots l.slot-index) (filled l.slots));
  ahead : (k : ℕ) → filled_before l.slots l.slot-index ≤ k → k < length (filled l.slots) → IsLeased l.self (number_at (filled l.slots) k);
}
