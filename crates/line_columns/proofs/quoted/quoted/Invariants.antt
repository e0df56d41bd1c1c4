use Rattle.std.proofs.Common.{◌≡◌, ◌≤◌, ◌-◌, [], length, take, drop}
use Rattle.line_columns.specs.Fields as spec
use Rattle.line_columns.proofs.quoted.quoted.Given as goal

abbrev pub invariant-octets : goal.invariant-octets
invariant-octets l = (l.at ≤ length l.text) × (spec.quoted [] l.text ≡ spec.quoted (take l.at l.text) (drop l.at l.text))

abbrev pub decreases-octets : goal.decreases-octets
decreases-octets l = length l.text - l.at
