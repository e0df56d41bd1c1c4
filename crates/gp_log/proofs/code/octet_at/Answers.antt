use Rattle.std.proofs.Common.{arith}
use Rattle.std.proofs.lemmas.Grind.{common_steps}
use Rattle.gp_log.specs.Code.{octet_at}
use Rattle.gp_log.proofs.code.octet_at.Goals as goal

pub returns : goal.returns
unfolding octet_at
returns c = grind (arith, common_steps)
