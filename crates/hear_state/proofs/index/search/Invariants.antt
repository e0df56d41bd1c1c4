use Rattle.hear_state.proofs.Ranks.{IsHalved}
use Rattle.hear_state.proofs.index.search.Given as goal

-- the number's place is among `size` places from `base` on
abbrev pub invariant-halves : goal.invariant-halves
invariant-halves l = IsHalved l.places l.rank l.base l.size

abbrev pub decreases-halves : goal.decreases-halves
decreases-halves l = l.size
