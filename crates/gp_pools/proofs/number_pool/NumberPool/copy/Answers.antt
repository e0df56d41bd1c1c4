use Rattle.gp_pools.proofs.SecondPools.{union_itself}
use Rattle.gp_pools.proofs.number_pool.NumberPool.copy.Goals as goal

pub invariant_of-result : goal.invariant_of-result
invariant_of-result g c = rw (c.union.ensures, c.union-2.ensures, union_itself c.self.inside.leased, union_itself c.self.inside.settled) c.self.invariant

pub returns : goal.returns
returns g c = rw (c.union.ensures, c.union-2.ensures, union_itself c.self.inside.leased, union_itself c.self.inside.settled) c.self.view_is
