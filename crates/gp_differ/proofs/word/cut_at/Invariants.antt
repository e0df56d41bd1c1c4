use Rattle.std.proofs.Common.{length, ◌-◌, ◌≡◌, ◌≤◌, drop, take}
use Rattle.gp_differ.specs.Parts.{cut_at}
use Rattle.gp_differ.proofs.CutLemmas.{ahead}
use Rattle.gp_differ.proofs.word.cut_at.Given as goal

abbrev pub invariant-places : goal.invariant-places
invariant-places l = (l.at ≤ length l.text) × (cut_at l.word l.text ≡ ahead (take l.at l.text) (cut_at l.word (drop l.at l.text)))

abbrev pub decreases-places : goal.decreases-places
decreases-places l = length l.text - l.at
