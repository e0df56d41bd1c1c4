use Rattle.std.proofs.Common.{true, false, Some, ap, sym, ◌∙◌, arith}
use Rattle.std.specs.FinSet.{contains}
use Rattle.gp_pools.proofs.Cool.{left_is}
use Rattle.gp_pools.proofs.SecondPools.{left_of}
use Rattle.gp_pools.proofs.cooling.Cooling.frames_left.Goals as goal

pub returns-then-not-contains : goal.returns-then-not-contains
returns-then-not-contains c =
    let a = c.self.inside in
    rw (← c.self.view_is)
    (left_of a.members a.leaves a.clock c.args.number false c.self.invariant.low (ap (contains a.members) (sym c.from.ensures) ∙ sym c.contains.ensures ∙ c.if-not-contains.true))

pub returns : goal.returns
returns c =
    let a = c.self.inside in
    let left = left_is a.leaves a.clock c.args.number c.from-2.result c.from-2.ensures (omega arith) in
    rw (← c.self.view_is)
    (ap Some left ∙ left_of a.members a.leaves a.clock c.args.number true c.self.invariant.low (ap (contains a.members) (sym c.from.ensures) ∙ sym c.contains.ensures ∙ c.if-not-contains.false))
