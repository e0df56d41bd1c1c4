use Rattle.std.proofs.Common.{◌≡◌}
use Rattle.gp_waves.specs.Port.{KeepsUnits, vars_of}
use Rattle.gp_waves.proofs.port.Port.tell_all.Given as goal

abbrev pub invariant-places : goal.invariant-places
invariant-places l = record {
  units : KeepsUnits l.fn.scope.port l.fn.held l.held;
  same : vars_of l.self ≡ vars_of l.fn.self;
}
