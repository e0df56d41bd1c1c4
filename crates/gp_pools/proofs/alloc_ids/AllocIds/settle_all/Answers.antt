use Rattle.std.proofs.Common.{List, ap, lit<}
use Rattle.gp_pools.specs.Pool.{pool_with_all_settled}
use Rattle.gp_pools.specs.Slots.{filled}
use Rattle.gp_pools.proofs.AllocPlaces.{Entry}
use Rattle.gp_pools.proofs.Each.{in_all}
use Rattle.gp_pools.proofs.All.{leased_each, all_settled}
use Rattle.gp_pools.proofs.alloc_ids.AllocIds.settle_all.Goals as goal

pub settle_each-requires : goal.settle_each-requires
settle_each-requires c =
    let all = rw (← c.self.view_is, ← c.leases.view_is) at c.requires in
    (lit< tt, (c.slots.ensures.rising, leased_each c.self.inside.pool c.leases.inside.allocs (filled c.slots.result) c.slots.ensures.entries all))

pub invariant_of-self : goal.invariant_of-self
invariant_of-self c = rw c.settle_each.ensures.pool c.self.invariant

pub returns-clause-settled : goal.returns-clause-settled
returns-clause-settled c = rw (← c.leases.view_is) (all_settled c.settle_each.new.self c.leases.inside.allocs (filled c.slots.result) c.slots.ensures.entries c.settle_each.ensures.settled)

pub returns-clause-pool : goal.returns-clause-pool
returns-clause-pool c =
    rw (c.settle_each.ensures.pool, ← c.self.view_is, ← c.leases.view_is)
    (ap (λ (es : List Entry). pool_with_all_settled c.self.inside.pool (in_all es)) c.slots.ensures.entries)
