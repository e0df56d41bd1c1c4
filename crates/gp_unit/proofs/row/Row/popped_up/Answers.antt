use Rattle.std.proofs.Common.{rules}
use Rattle.gp_unit.proofs.row.Row.popped_up.Goals as goal

pub returns-in-Ranging : goal.returns-in-Ranging
returns-in-Ranging c = search rules
