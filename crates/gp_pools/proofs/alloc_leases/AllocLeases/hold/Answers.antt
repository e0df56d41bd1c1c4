use Rattle.std.proofs.Common.{false}
use Rattle.gp_pools.proofs.Further.{further_insert}
use Rattle.gp_pools.proofs.alloc_leases.AllocLeases.hold.Goals as goal

pub invariant_of-self : goal.invariant_of-self
invariant_of-self c = rw c.insert.ensures (further_insert c.self.inside.allocs c.lease.inside.number false c.lease.invariant.0 c.lease.invariant.1 c.self.invariant)
