use Rattle.std.proofs.Common.{◌≡◌, ◌+◌, ◌-◌, arith, rules}
use Rattle.gp_pools.specs.Pool.{IsFree}
use Rattle.gp_pools.proofs.Pools.{free_has_room}
use Rattle.gp_pools.proofs.alloc_ids.AllocIds.lease.Goals as goal

pub lease-requires : goal.lease-requires
lease-requires c =
    let pool = c.self.inside.pool in
    let size : pool.limit ≡ pool.last + 1 - pool.first = omega (arith, c.self.invariant.0, c.self.invariant.2) in
    let free : IsFree pool c.args.number = rw (← c.self.view_is) at c.requires.free in
    (search rules, (free, free_has_room pool c.is_free-free.ensures.sound size c.args.number free))

pub returns-clause-number : goal.returns-clause-number
returns-clause-number c = search rules
