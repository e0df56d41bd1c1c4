use Rattle.std.proofs.Common.{rules}
use Rattle.gp_unit.proofs.retired.Retired.give_up.Goals as goal

pub returns-clause-allocs : goal.returns-clause-allocs
returns-clause-allocs c = search rules
