use Rattle.std.proofs.Common.{rules}
use Rattle.gp_pools.proofs.onu_ids.OnuIds.new.Goals as goal

pub returns : goal.returns
returns c = search rules
