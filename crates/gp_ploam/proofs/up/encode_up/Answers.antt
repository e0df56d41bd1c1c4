use Rattle.std.proofs.Common.{rules}
use Rattle.gp_ploam.proofs.up.encode_up.Goals as goal

pub returns : goal.returns
returns c = search rules
