use Rattle.std.proofs.Common.{◌≡◌, ◌≤◌, ◌++◌, length}
use Rattle.gp_summed.proofs.hearer.Hearer.take.Given as goal

-- what was taken so far and what is left are all that there is
abbrev pub invariant-lines : goal.invariant-lines
invariant-lines l = record {
  taken : l.self.taken ++ l.rest ≡ l.fn.self.taken ++ l.octets;
  mask : l.self.mask ≡ l.fn.self.mask;
  short : length l.rest ≤ length l.octets;
}

abbrev pub decreases-lines : goal.decreases-lines
decreases-lines l = length l.rest
