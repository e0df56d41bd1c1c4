use Rattle.gp_waves.specs.Port.{KeepsUnits}
use Rattle.gp_waves.proofs.port.Port.show_lanes.Given as goal

abbrev pub invariant-places : goal.invariant-places
invariant-places l = KeepsUnits l.fn.scope.port l.fn.held l.held
