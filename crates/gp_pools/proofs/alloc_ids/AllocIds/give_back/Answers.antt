use Rattle.std.proofs.Common.{rules}
use Rattle.gp_pools.proofs.alloc_ids.AllocIds.give_back.Goals as goal

pub returns : goal.returns
returns c = search rules
