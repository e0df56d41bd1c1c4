use Rattle.std.proofs.Common.{◌≡◌, refl, ap, sym, ◌∙◌}
use Rattle.std.specs.FinMap.{entries}
use Rattle.gp_pools.specs.Allocs.{AllocMap}
use Rattle.gp_pools.specs.Slots.{slots_of}
use Rattle.gp_pools.specs.SameSlots.{same_slots}
use Rattle.gp_pools.proofs.allocs.AllocsPartialEq.eq.Goals as goal

pub returns : goal.returns
returns c =
    let one : slots_of (entries c.args.self.now) ≡ c.t1-1.inside.slots =
    ap (λ (m : AllocMap). slots_of (entries m)) (sym c.t1-1.view_is) ∙ same_slots c.t1-1.inside.slots c.t1-1.invariant in
    let other : slots_of (entries c.args.other.now) ≡ c.t2-1.inside.slots =
    ap (λ (m : AllocMap). slots_of (entries m)) (sym c.t2-1.view_is) ∙ same_slots c.t2-1.inside.slots c.t2-1.invariant in
    rw (c.eq.ensures, one, other) refl
