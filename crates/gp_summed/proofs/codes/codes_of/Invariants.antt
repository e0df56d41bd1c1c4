use Rattle.std.proofs.Common.{◌≡◌}
use Rattle.gp_summed.specs.Codes.{codes_of}
use Rattle.gp_summed.proofs.codes.codes_of.Given as goal

abbrev pub invariant-ports : goal.invariant-ports
invariant-ports l = l.codes ≡ codes_of l.listener.ports l.port
