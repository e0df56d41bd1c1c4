use Rattle.gp_fibre.proofs.Asking.{AreEmpty}
use Rattle.gp_fibre.proofs.asked_units.AskedUnits.begin.Given as goal

abbrev pub invariant-loop : goal.invariant-loop
invariant-loop l = AreEmpty l.units l.by_onu_id l.counter
