use Rattle.std.proofs.Common.{sym, ◌∙◌}
use Rattle.std.specs.FinMap as map
use Rattle.gp_pools.proofs.Apart.{apart-lease, no_value}
use Rattle.gp_pools.proofs.onu_ids.OnuIds.take.Goals as goal

pub invariant_of-self : goal.invariant_of-self
invariant_of-self c =
    let q = c.self.inside in
    let number = c.in_ok-number.number in
    let warm = no_value (map.get q.cooling.cooling number) (sym (c.members.ensures number) ∙ c.in_ok-number.ensures.unbarred) in
    rw c.lease.ensures.pool
    (c.self.invariant.0, c.self.invariant.1, apart-lease (record { pool = q.pool; quarantine = q.cooling }) number warm c.self.invariant.2)
