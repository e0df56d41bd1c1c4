use Rattle.std.proofs.Common.{rules}
use Rattle.gp_onu.proofs.unit.Unit.dark.Goals as goal

pub returns : goal.returns
returns c = search rules
