use Rattle.std.proofs.Common.{◌≡◌, ◌+◌, ◌-◌, arith}
use Rattle.gp_pools.proofs.Pools.{room_has_free, free_has_room}
use Rattle.gp_pools.proofs.alloc_ids.AllocIds.any_free.Goals as goal

pub returns : goal.returns
returns c =
    let pool = c.self.inside.pool in
    let size : pool.limit ≡ pool.last + 1 - pool.first = omega (arith, c.self.invariant.0, c.self.invariant.2) in
    rw (← c.self.view_is) (
      λ is. room_has_free pool c.has_room.ensures.sound (c.has_room.ensures.room.0 is),
      λ free. c.has_room.ensures.room.1 (free_has_room pool c.has_room.ensures.sound size free.0 free.1),
    )
