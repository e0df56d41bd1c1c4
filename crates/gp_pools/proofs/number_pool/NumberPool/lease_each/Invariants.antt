use Rattle.std.proofs.Common.{◌≡◌, ℕ, ◌≤◌, ◌<◌, length, take}
use Rattle.gp_pools.specs.Allocs.{number_at}
use Rattle.gp_pools.specs.Slots.{filled}
use Rattle.gp_pools.proofs.Slots.{filled_before}
use Rattle.gp_pools.proofs.Each.{lease_each, AreLeasedBelow}
use Rattle.gp_pools.proofs.number_pool.NumberPool.lease_each.Given as goal

-- the numbers of the places so far are leased again
abbrev pub invariant-loop-slot : goal.invariant-loop-slot
invariant-loop-slot g l = record {
  pool : l.self ≡ lease_each l.fn.self (take (filled_before l.slots l.slot-index) (filled l.slots));
  below : AreLeasedBelow l.self (filled l.slots) (filled_before l.slots l.slot-index);
  own : (k : ℕ) → k < filled_before l.slots l.slot-index → k < length (filled l.slots) → (l.fn.self.first ≤ number_at (filled l.slots) k) × (number_at (filled l.slots) k ≤ l.fn.self.last);
}
