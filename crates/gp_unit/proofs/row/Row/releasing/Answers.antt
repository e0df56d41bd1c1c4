use Rattle.std.proofs.Common.{rules}
use Rattle.gp_unit.proofs.row.Row.releasing.Goals as goal

pub returns : goal.returns
returns c = search rules
