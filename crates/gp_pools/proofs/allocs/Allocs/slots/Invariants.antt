use Rattle.std.proofs.Common.{◌≡◌, ◌<◌, ℕ, length, get_or, None}
use Rattle.gp_pools.proofs.allocs.Allocs.slots.Given as goal

-- the places so far are shown
abbrev pub invariant-loop-place : goal.invariant-loop-place
invariant-loop-place l = record {
  eight : length l.shown ≡ 8;
  same : (i : ℕ) → i < l.place → get_or l.shown i None ≡ get_or l.self-inside.slots i None;
}
