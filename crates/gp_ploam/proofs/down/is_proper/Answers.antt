use Rattle.std.proofs.Common.{rules}
use Rattle.gp_ploam.proofs.down.is_proper.Goals as goal

pub returns : goal.returns
returns c = search rules
