use Rattle.std.proofs.Common.{true}
use Rattle.gp_pools.proofs.Further.{further_insert}
use Rattle.gp_pools.proofs.alloc_leases.AllocLeases.leave.Goals as goal

pub invariant_of-self : goal.invariant_of-self
invariant_of-self c =
    let has = rw (← c.self.view_is) at c.requires in
    let range = c.self.invariant c.args.number has in
    rw c.insert.ensures (further_insert c.self.inside.allocs c.args.number true range.0 range.1 c.self.invariant)
