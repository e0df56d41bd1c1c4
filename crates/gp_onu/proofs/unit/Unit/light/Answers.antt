use Rattle.std.proofs.Common.{rules}
use Rattle.gp_onu.proofs.unit.Unit.light.Goals as goal

pub returns-in-Initial : goal.returns-in-Initial
returns-in-Initial c = search rules

pub returns-in_default : goal.returns-in_default
returns-in_default c = search rules
