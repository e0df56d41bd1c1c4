use Rattle.std.proofs.Common.{rules}
use Rattle.gp_ploam.proofs.up.is_proper_up.Goals as goal

pub returns : goal.returns
returns c = search rules
