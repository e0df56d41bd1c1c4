use Rattle.std.proofs.Common.{is_some, ap, ◌∙◌, arith}
use Rattle.std.specs.FinMap as map
use Rattle.gp_pools.specs.Slots.{filled}
use Rattle.gp_pools.proofs.AllocPlaces.{len-allocs_of}
use Rattle.gp_pools.proofs.Slots.{empty_at, read_at}
use Rattle.gp_pools.proofs.allocs.Allocs.len.Goals as goal

pub returns-then-is_none-clause-len : goal.returns-then-is_none-clause-len
returns-then-is_none-clause-len c =
    let size = len-allocs_of (filled c.self.inside.slots) c.self.invariant.rising in
    let same = ap map.len c.self.view_is in
    let beyond = empty_at c.self.inside.slots c.self.invariant c.loop-place.place (ap is_some (read_at c.self.inside.slots c.self.invariant c.loop-place.place _ _ c.loop-place-test.true c.get.ensures) ∙ c.if-is_none.ensures) in
    omega arith

pub returns-clause-len : goal.returns-clause-len
returns-clause-len c =
    let size = len-allocs_of (filled c.self.inside.slots) c.self.invariant.rising in
    let same = ap map.len c.self.view_is in
    let few = c.self.invariant.few in
    omega arith
