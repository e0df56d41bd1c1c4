use Rattle.gp_fibre.proofs.StoredUnits.{ArePlanned}
use Rattle.gp_fibre.proofs.unit_store.UnitStore.begin.Given as goal

abbrev pub invariant-loop-plan : goal.invariant-loop-plan
invariant-loop-plan l = ArePlanned l.mask l.plans l.stored_units l.plan-index
