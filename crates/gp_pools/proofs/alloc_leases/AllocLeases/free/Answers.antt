use Rattle.gp_pools.proofs.Further.{further_remove}
use Rattle.gp_pools.proofs.alloc_leases.AllocLeases.free.Goals as goal

pub invariant_of-self : goal.invariant_of-self
invariant_of-self c = rw c.remove.ensures.rest (further_remove c.self.inside.allocs c.args.number c.self.invariant)
