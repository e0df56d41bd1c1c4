use Rattle.std.proofs.Common.{◌≡◌, ◌≤◌, ◌-◌, length, take}
use Rattle.gp_compare.proofs.step.count_same.Given as goal

abbrev pub invariant-octets : goal.invariant-octets
invariant-octets l = record {
  one : l.at ≤ length l.one;
  other : l.at ≤ length l.other;
  same : take l.at l.one ≡ take l.at l.other;
}

abbrev pub decreases-octets : goal.decreases-octets
decreases-octets l = length l.one - l.at
