use Rattle.std.proofs.Common.{List, ap, lit<}
use Rattle.gp_pools.specs.Pool.{pool_with_all_leased_again}
use Rattle.gp_pools.specs.Slots.{filled}
use Rattle.gp_pools.proofs.AllocPlaces.{Entry}
use Rattle.gp_pools.proofs.Each.{in_all}
use Rattle.gp_pools.proofs.All.{all_further, all_leased, settled_each}
use Rattle.gp_pools.proofs.alloc_ids.AllocIds.leases_of.Goals as goal

pub lease_each-requires : goal.lease_each-requires
lease_each-requires c =
    let all = rw (← c.self.view_is) at c.requires in
    (lit< tt, (c.slots.ensures.rising, settled_each c.self.inside.pool c.args.allocs (filled c.slots.result) c.slots.ensures.entries all))

pub invariant_of-self : goal.invariant_of-self
invariant_of-self c = rw c.lease_each.ensures.pool c.self.invariant

pub returns-clause-leased : goal.returns-clause-leased
returns-clause-leased c = (all_leased c.lease_each.new.self c.args.allocs (filled c.slots.result) c.slots.ensures.entries c.lease_each.ensures.leased)

pub invariant_of-result : goal.invariant_of-result
invariant_of-result c =
    let pool = c.self.inside.pool in
    all_further pool.first pool.last c.args.allocs (filled c.slots.result) c.slots.ensures.entries c.self.invariant.0 c.self.invariant.1 c.lease_each.ensures.own

pub returns-clause-pool : goal.returns-clause-pool
returns-clause-pool c =
    rw (c.lease_each.ensures.pool, ← c.self.view_is)
    (ap (λ (es : List Entry). pool_with_all_leased_again c.self.inside.pool (in_all es)) c.slots.ensures.entries)
