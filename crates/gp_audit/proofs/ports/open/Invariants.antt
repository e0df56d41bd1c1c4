use Rattle.std.proofs.Common.{◌≡◌, replicate}
use Rattle.gp_audit.specs.Port.{port_begun}
use Rattle.gp_audit.proofs.ports.open.Given as goal

-- so many are opened
abbrev pub invariant-loop : goal.invariant-loop
invariant-loop l = l.ports.items ≡ replicate l.counter (port_begun l.midway)
