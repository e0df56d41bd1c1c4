use Rattle.std.proofs.Common.{◌≡◌, ◌++◌}
use Rattle.gp_audit.specs.Ending.{first_units}
use Rattle.gp_audit.proofs.ports.Ports.push_units.Given as goal

abbrev pub invariant-loop-place : goal.invariant-loop-place
invariant-loop-place l = l.out.items ≡ l.fn.out.items ++ first_units l.options l.self l.place
