use Rattle.std.proofs.Common.{◌≡◌, ◌≤◌, ◌-◌, ◌++◌, length, take}
use Rattle.gp_compare.proofs.texts.hand_in.Given as goal

abbrev pub invariant-writes : goal.invariant-writes
invariant-writes g l = record {
  within : l.at ≤ length l.text;
  taken : l.comparer.taken ≡ l.fn.comparer.taken ++ take l.at l.text;
}

abbrev pub decreases-writes : goal.decreases-writes
decreases-writes g l = length l.text - l.at
