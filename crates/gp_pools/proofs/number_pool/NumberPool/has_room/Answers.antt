use Rattle.std.proofs.Common.{rules}
use Rattle.gp_pools.proofs.number_pool.NumberPool.has_room.Goals as goal

pub returns-clause-room : goal.returns-clause-room
returns-clause-room g c = search rules
