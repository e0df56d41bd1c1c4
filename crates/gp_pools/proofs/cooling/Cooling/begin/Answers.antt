use Rattle.std.proofs.Common.{◌≡◌, length, refl, arith, rules, inl, inr}
use Rattle.gp_pools.proofs.Cool.{cool-begin, cooling-begin, begins, lt_leb}
use Rattle.gp_pools.proofs.cooling.Cooling.begin.Goals as goal

pub invariant_of-self : goal.invariant_of-self
invariant_of-self c =
    let q = c.self.inside in
    let long : length q.leaves ≡ 256 = search rules in
    rw (c.insert.ensures, c.from.ensures)
    (cool-begin q.frames c.args.number q.clock q.members q.leaves long c.requires c.self.invariant.short (omega arith) q.wait q.frames c.self.invariant (omega arith) (inl (c.if-self-eq0-2.true, refl)))

pub invariant_of-self-else-self-eq0-2 : goal.invariant_of-self-else-self-eq0-2
invariant_of-self-else-self-eq0-2 c =
    let q = c.self.inside in
    let long : length q.leaves ≡ 256 = search rules in
    rw (c.insert.ensures, c.from.ensures)
    (cool-begin q.frames c.args.number q.clock q.members q.leaves long c.requires c.self.invariant.short (omega arith) q.wait q.wait c.self.invariant (omega arith) (inr (c.if-self-eq0-2.false, refl)))

pub returns-then-self-eq0-2 : goal.returns-then-self-eq0-2
returns-then-self-eq0-2 c =
    let q = c.self.inside in
    let long : length q.leaves ≡ 256 = search rules in
    let some = lt_leb q.frames 0 (omega arith) in
    rw (c.insert.ensures, c.from.ensures, ← c.self.view_is)
    (begins q.frames _ _ c.args.number some (cooling-begin q.frames c.args.number q.clock q.members q.leaves long c.requires c.self.invariant.short (omega arith)))

pub returns-else-self-eq0-2 : goal.returns-else-self-eq0-2
returns-else-self-eq0-2 c =
    let q = c.self.inside in
    let long : length q.leaves ≡ 256 = search rules in
    let some = lt_leb q.frames 0 (omega arith) in
    rw (c.insert.ensures, c.from.ensures, ← c.self.view_is)
    (begins q.frames _ _ c.args.number some (cooling-begin q.frames c.args.number q.clock q.members q.leaves long c.requires c.self.invariant.short (omega arith)))
