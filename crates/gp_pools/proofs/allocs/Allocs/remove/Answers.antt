use Rattle.std.proofs.Common.{ap, ◌∙◌, arith}
use Rattle.std.specs.FinMap as map
use Rattle.std.specs.List.{remove}
use Rattle.std.proofs.lemmas.List.Edits.{length-remove}
use Rattle.gp_pools.specs.Allocs.{IsPlaceOf, allocs_of}
use Rattle.gp_pools.specs.Slots.{filled}
use Rattle.gp_pools.proofs.Entries.{remove-absent}
use Rattle.gp_pools.proofs.AllocPlaces.{allocs_of-remove, found_none, len-allocs_of, rising-remove}
use Rattle.gp_pools.proofs.Slots.{are_slots, filled-slots_of, slots_without}
use Rattle.gp_pools.proofs.allocs.Allocs.remove.Goals as goal

pub invariant_of-self : goal.invariant_of-self
invariant_of-self c =
    let slots = c.self.inside.slots in
    let es = filled slots in
    let at : IsPlaceOf es c.args.alloc c.in-Ok.place = c.in-Ok.ensures.found in
    let few = c.self.invariant.few in
    let less = length-remove es c.in-Ok.place at.within in
    rw (slots_without slots c.self.invariant c.in-Ok.place c.rotate_left.new.self at.within c.rotate_left.ensures.after)
    (are_slots (remove es c.in-Ok.place) (rising-remove es c.in-Ok.place at.within c.self.invariant.rising) (omega arith))

pub returns-in-Ok-clause-rest : goal.returns-in-Ok-clause-rest
returns-in-Ok-clause-rest c =
    let slots = c.self.inside.slots in
    let es = filled slots in
    let at : IsPlaceOf es c.args.alloc c.in-Ok.place = c.in-Ok.ensures.found in
    ap (λ xs. allocs_of (filled xs)) (slots_without slots c.self.invariant c.in-Ok.place c.rotate_left.new.self at.within c.rotate_left.ensures.after)
    ∙ ap allocs_of (filled-slots_of (remove es c.in-Ok.place))
    ∙ allocs_of-remove es c.args.alloc c.in-Ok.place c.self.invariant.rising at
    ∙ ap (λ m. map.remove m c.args.alloc) c.self.view_is

pub returns-in-Ok-clause-few : goal.returns-in-Ok-clause-few
returns-in-Ok-clause-few c =
    let size = len-allocs_of (filled c.self.inside.slots) c.self.invariant.rising in
    let same = ap map.len c.self.view_is in
    let few = c.self.invariant.few in
    omega arith

pub returns-in_default-clause-rest : goal.returns-in_default-clause-rest
returns-in_default-clause-rest c =
    let es = filled c.self.inside.slots in
    rw (← c.self.view_is) (remove-absent (allocs_of es) c.args.alloc (found_none es c.args.alloc _ c.self.invariant.rising c.in_default.ensures.absent))

pub returns-in_default-clause-few : goal.returns-in_default-clause-few
returns-in_default-clause-few c =
    let size = len-allocs_of (filled c.self.inside.slots) c.self.invariant.rising in
    let same = ap map.len c.self.view_is in
    let few = c.self.invariant.few in
    omega arith
