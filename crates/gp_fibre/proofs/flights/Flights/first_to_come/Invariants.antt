use Rattle.std.proofs.Common.{◌≡◌, drop}
use Rattle.gp_fibre.specs.Forgetting.{first_to_come}
use Rattle.gp_fibre.proofs.flights.Flights.first_to_come.Given as goal

abbrev pub invariant-flights : goal.invariant-flights
invariant-flights l = first_to_come l.first (drop l.flight-index l.self.flights) ≡ first_to_come l.next l.self.flights
