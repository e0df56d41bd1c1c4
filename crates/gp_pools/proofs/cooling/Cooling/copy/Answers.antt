use Rattle.gp_pools.proofs.SecondPools.{union_itself}
use Rattle.gp_pools.proofs.cooling.Cooling.copy.Goals as goal

pub invariant_of-result : goal.invariant_of-result
invariant_of-result c = rw (c.union.ensures, union_itself c.self.inside.members) c.self.invariant

pub returns : goal.returns
returns c = rw (c.union.ensures, union_itself c.self.inside.members) c.self.view_is
