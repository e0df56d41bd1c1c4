use Rattle.std.proofs.Common.{List, ap, lit<}
use Rattle.gp_pools.specs.Pool.{pool_without_all}
use Rattle.gp_pools.specs.Slots.{filled}
use Rattle.gp_pools.proofs.AllocPlaces.{Entry}
use Rattle.gp_pools.proofs.Each.{in_all}
use Rattle.gp_pools.proofs.All.{leased_each}
use Rattle.gp_pools.proofs.alloc_ids.AllocIds.give_back_all.Goals as goal

pub give_back_each-requires : goal.give_back_each-requires
give_back_each-requires c =
    let all = rw (← c.self.view_is, ← c.leases.view_is) at c.requires in
    (lit< tt, (c.slots.ensures.rising, leased_each c.self.inside.pool c.leases.inside.allocs (filled c.slots.result) c.slots.ensures.entries all))

pub invariant_of-self : goal.invariant_of-self
invariant_of-self c = rw c.give_back_each.ensures c.self.invariant

pub returns : goal.returns
returns c =
    rw (c.give_back_each.ensures, ← c.self.view_is, ← c.leases.view_is)
    (ap (λ (es : List Entry). pool_without_all c.self.inside.pool (in_all es)) c.slots.ensures.entries)
