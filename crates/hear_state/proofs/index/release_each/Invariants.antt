use Rattle.std.proofs.Common.{◌≡◌, ℕ, ◌<◌, map, get_or}
use Rattle.hear_state.specs.Index.{blank_place, released_place}
use Rattle.hear_state.proofs.index.release_each.Given as goal

-- once all are enabled it comes to the same, and those so far are
abbrev pub invariant-loop-place : goal.invariant-loop-place
invariant-loop-place l = record {
  same : map released_place l.places ≡ map released_place l.initial.places;
  done : (i : ℕ) → i < l.place-index → released_place (get_or l.places i blank_place) ≡ get_or l.places i blank_place;
}
