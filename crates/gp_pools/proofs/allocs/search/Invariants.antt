use Rattle.std.proofs.Common.{ℕ, ◌≤◌, ◌<◌, length}
use Rattle.gp_pools.specs.Allocs.{number_at}
use Rattle.gp_pools.specs.Slots.{filled}
use Rattle.gp_pools.proofs.allocs.search.Given as goal

-- the Alloc-IDs so far are lower
abbrev pub invariant-loop-place : goal.invariant-loop-place
invariant-loop-place l = record {
  within : l.place ≤ length (filled l.slots);
  before : (j : ℕ) → j < l.place → number_at (filled l.slots) j < l.alloc;
}
