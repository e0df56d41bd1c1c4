use Rattle.std.proofs.Common.{rules}
use Rattle.gp_unit.proofs.leased.Leased.settle.Goals as goal

pub returns-clause-onus : goal.returns-clause-onus
returns-clause-onus c = search rules

pub returns-clause-settled_onu : goal.returns-clause-settled_onu
returns-clause-settled_onu c = search rules
