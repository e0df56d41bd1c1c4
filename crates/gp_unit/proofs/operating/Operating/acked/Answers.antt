use Rattle.std.proofs.Common.{rules}
use Rattle.gp_unit.proofs.operating.Operating.acked.Goals as goal

pub invariant_of-unit : goal.invariant_of-unit
invariant_of-unit c = search rules

pub returns-clause-freed : goal.returns-clause-freed
returns-clause-freed c = search rules
