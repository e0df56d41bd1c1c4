use Rattle.std.proofs.Common.{rules}
use Rattle.gp_ploam.proofs.down.encode_down.Goals as goal

pub returns : goal.returns
returns c = search rules
