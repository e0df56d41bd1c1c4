use Rattle.std.proofs.Common.{◌≡◌, ℕ, ◌<◌, ◌≤◌, length, get_or}
use Rattle.hear_state.specs.declared.owners.Place.TheVariants as place
use Rattle.hear_state.specs.Owners.{settled}
use Rattle.hear_state.proofs.owners.settle_each.Given as goal

-- those so far are changed, and the rest are as they were
abbrev pub invariant-loop-place : goal.invariant-loop-place
invariant-loop-place l = record {
  long : length l.places ≡ length l.initial.places;
  done : (i : ℕ) → i < l.place-index → get_or l.places i place.Unclear ≡ settled l.now l.onu l.unsure (get_or l.initial.places i place.Unclear);
  rest : (i : ℕ) → l.place-index ≤ i → get_or l.places i place.Unclear ≡ get_or l.initial.places i place.Unclear;
}
