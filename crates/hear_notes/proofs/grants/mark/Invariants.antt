use Rattle.std.proofs.Common.{◌≡◌, ℕ, ◌<◌, map, get_or}
use Rattle.hear_notes.specs.Grants.{marked}
use Rattle.hear_notes.proofs.Granting.{blank_granted}
use Rattle.hear_notes.proofs.grants.mark.Given as goal

-- once all are marked it comes to the same, and those so far are
abbrev pub invariant-loop-granted : goal.invariant-loop-granted
invariant-loop-granted l = record {
  same : map (marked l.number) l.kept ≡ map (marked l.number) l.initial.kept;
  done : (i : ℕ) → i < l.granted-index → marked l.number (get_or l.kept i blank_granted) ≡ get_or l.kept i blank_granted;
}
