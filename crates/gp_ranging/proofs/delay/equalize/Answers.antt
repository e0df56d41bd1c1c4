use Rattle.std.proofs.Common.{rules}
use Rattle.gp_ranging.proofs.delay.equalize.Goals as goal

pub returns : goal.returns
returns c = search rules
