use Rattle.std.proofs.Common.{◌≤◌, ◌-◌, length}
use Rattle.gp_lines.proofs.ZeroLemmas.{AreZeros}
use Rattle.gp_lines.proofs.fields.first_other.Given as goal

abbrev pub invariant-blocks-2 : goal.invariant-blocks-2
invariant-blocks-2 l = (l.at ≤ length l.text) × AreZeros l.at l.text

abbrev pub decreases-blocks-2 : goal.decreases-blocks-2
decreases-blocks-2 l = length l.text - l.at
