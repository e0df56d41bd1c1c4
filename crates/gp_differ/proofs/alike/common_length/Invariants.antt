use Rattle.std.proofs.Common.{length, ◌-◌, ◌+◌, ◌≡◌, ◌≤◌, drop}
use Rattle.gp_differ.specs.Alike.{common_length}
use Rattle.gp_differ.proofs.alike.common_length.Given as goal

abbrev pub invariant-octets : goal.invariant-octets
invariant-octets l =
    (l.at ≤ length l.first) × (l.at ≤ length l.second)
    × (common_length l.first l.second ≡ l.at + common_length (drop l.at l.first) (drop l.at l.second))

abbrev pub decreases-octets : goal.decreases-octets
decreases-octets l = length l.first - l.at
