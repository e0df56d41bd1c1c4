use Rattle.std.proofs.Common.{◌≡◌, ◌≤◌, length}
use Rattle.gp_compare.specs.Place.{behind}
use Rattle.gp_compare.proofs.place.Place.pass.Given as goal

abbrev pub invariant-lines : goal.invariant-lines
invariant-lines l = record {
  same : behind l.self l.rest ≡ behind l.fn.self l.octets;
  within : length l.rest ≤ length l.octets;
}

abbrev pub decreases-lines : goal.decreases-lines
decreases-lines l = length l.rest
