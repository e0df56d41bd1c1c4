use Rattle.std.proofs.Common.{arith}
use Rattle.gp_numbers.proofs.Members.{contains-insert_same}
use Rattle.gp_pools.specs.Pool.{IsFree, HasRoom, pool_of}
use Rattle.gp_pools.proofs.Pools.{kept-lease}
use Rattle.gp_pools.proofs.number_pool.NumberPool.lease.Goals as goal

pub invariant_of-self : goal.invariant_of-self
invariant_of-self g c =
    let q = c.self.inside in
    let pool = pool_of g.row.FIRST q.last q.limit q.leased q.settled in
    let room : HasRoom pool = rw (← c.self.view_is) at c.requires.room in
    let free : IsFree pool c.args.number = rw (← c.self.view_is) at c.requires.free in
    let counted = c.self.invariant.counted in
    rw c.insert.ensures (kept-lease pool q.out _ c.args.number c.self.invariant (λ full. omega arith) free)

pub returns-clause-leased : goal.returns-clause-leased
returns-clause-leased g c = rw c.insert.ensures (contains-insert_same c.self.inside.leased c.args.number)
