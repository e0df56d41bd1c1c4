use Rattle.std.proofs.Common.{rules}
use Rattle.gp_log.specs.Time.{decimals_in}
use Rattle.gp_log.proofs.time.decimals_in.Goals as goal

pub returns : goal.returns
unfolding decimals_in
returns c = search rules
