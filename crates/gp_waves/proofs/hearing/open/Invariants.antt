use Rattle.std.proofs.Common.{◌≡◌}
use Rattle.std.specs.Prelude.{map, replicate}
use Rattle.gp_waves.specs.Port.{vars_of}
use Rattle.gp_waves.specs.Hearing.{no_vars}
use Rattle.gp_waves.proofs.hearing.open.Given as goal

abbrev pub invariant-ports : goal.invariant-ports
invariant-ports l = map vars_of l.ports.items ≡ replicate l._count no_vars
