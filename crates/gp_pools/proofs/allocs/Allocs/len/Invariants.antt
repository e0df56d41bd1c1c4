use Rattle.std.proofs.Common.{◌≤◌, length}
use Rattle.gp_pools.specs.Slots.{filled}
use Rattle.gp_pools.proofs.allocs.Allocs.len.Given as goal

-- the places so far are not empty
abbrev pub invariant-loop-place : goal.invariant-loop-place
invariant-loop-place l = l.place ≤ length (filled l.self-inside.slots)
