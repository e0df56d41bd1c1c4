use Rattle.std.proofs.Common.{rules}
use Rattle.gp_pools.specs.Onu.{IsFreeOnu, OnuPool}
use Rattle.gp_pools.proofs.Apart.{apart-lease}
use Rattle.gp_pools.proofs.onu_ids.OnuIds.lease.Goals as goal

pub invariant_of-self : goal.invariant_of-self
invariant_of-self c =
    let q = c.self.inside in
    let ids : OnuPool = record { pool = q.pool; quarantine = q.cooling } in
    let free : IsFreeOnu ids c.args.number = rw (← c.self.view_is) at c.requires.free in
    rw (c.lease.ensures.pool, c.from.ensures) (c.self.invariant.0, c.self.invariant.1, apart-lease ids c.args.number free.1 c.self.invariant.2)

pub returns-clause-number : goal.returns-clause-number
returns-clause-number c = search rules
