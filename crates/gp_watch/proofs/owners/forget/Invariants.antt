use Rattle.std.proofs.Common.{◌≡◌, ℕ, ◌<◌, map, get_or, None}
use Rattle.gp_watch.specs.Owners.{left_at}
use Rattle.gp_watch.proofs.owners.forget.Given as goal

-- once all are forgotten it comes to the same, and those so far are
abbrev pub invariant-loop-place : goal.invariant-loop-place
invariant-loop-place l = record {
  same : map (left_at l.onu) l.places ≡ map (left_at l.onu) l.initial.places;
  done : (i : ℕ) → i < l.place-index → left_at l.onu (get_or l.places i None) ≡ get_or l.places i None;
}
