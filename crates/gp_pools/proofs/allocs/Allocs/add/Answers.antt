use Rattle.std.proofs.Common.{◌≡◌, ℕ, ◌-◌, ◌<◌, Bool, List, Option, None, Some, sym, ap, ◌∙◌, arith, length}
use Rattle.std.specs.FinMap as map
use Rattle.std.specs.List.{insert}
use Rattle.gp_pools.specs.Allocs.{IsGapFor, allocs_of}
use Rattle.gp_pools.specs.Slots.{filled}
use Rattle.gp_pools.proofs.AllocPlaces.{allocs_of-insert, found_flag, len-allocs_of, rising-insert}
use Rattle.gp_pools.proofs.Slots.{are_slots, eight, filled-slots_of, slots_with}
use Rattle.std.proofs.lemmas.List.{length-append, length-take, length-drop}
use borrow.Rule.Slice.PartMut.{mid_of, put_mid}
use Rattle.std.proofs.lemmas.List.Edits.{length-insert}
use Rattle.gp_pools.proofs.allocs.Allocs.add.Goals as goal

none_is_not_some : (b : Bool) → ◌≡◌ {A = Option Bool} None (Some b) → ⊥
none_is_not_some b e = cc

pub unreachable-requires : goal.unreachable-requires
unreachable-requires c =
    let found = found_flag (filled c.self.inside.slots) c.args.alloc c.in-Ok.field-0 c.self.invariant.rising c.in-Ok.ensures.found in
    none_is_not_some _ (sym c.requires.new ∙ ap (λ m. map.get m c.args.alloc) (sym c.self.view_is) ∙ found)

pub rotate_right-requires : goal.rotate_right-requires
rotate_right-requires c =
    let size = len-allocs_of (filled c.self.inside.slots) c.self.invariant.rising in
    let same = ap map.len c.self.view_is in
    let gap = c.in-Err.ensures.absent in
    let within = gap.within in
    let long = eight c.self.inside.slots c.self.invariant in
    let room = c.requires.room in
    simp (length-take, length-drop) (omega arith)

pub bounds-self-inside-place : goal.bounds-self-inside-place
bounds-self-inside-place c =
    let size = len-allocs_of (filled c.self.inside.slots) c.self.invariant.rising in
    let same = ap map.len c.self.view_is in
    let gap = c.in-Err.ensures.absent in
    let within = gap.within in
    let room = c.requires.room in
    omega arith

longer_than : {X : Type 0} (i k : ℕ) (xs ys : List X) → i < length xs → 0 < length ys → i < length (put_mid i k xs ys)
longer_than i k xs ys within some = simp (length-append, length-take, length-drop) (omega arith)

pub listed : goal.listed
listed c =
    let size = len-allocs_of (filled c.self.inside.slots) c.self.invariant.rising in
    let same = ap map.len c.self.view_is in
    let gap = c.in-Err.ensures.absent in
    let within = gap.within in
    let room = c.requires.room in
    let long = eight c.self.inside.slots c.self.invariant in
    let turned = c.rotate_right.ensures.len in
    let part : length (mid_of c.in-Err.place (length c.self.inside.slots - c.in-Err.place) c.self.inside.slots) ≡ length c.self.inside.slots - c.in-Err.place = simp (length-take, length-drop) (omega arith) in
    longer_than _ _ _ _ (omega arith) (omega arith)

few : (n m k : ℕ) → n ≡ m → m ≡ k → k < 8 → n < 8
few n m k e f h = omega arith

pub invariant_of-self : goal.invariant_of-self
invariant_of-self c =
    let slots = c.self.inside.slots in
    let es = filled slots in
    let gap : IsGapFor es c.args.alloc c.in-Err.place = c.in-Err.ensures.absent in
    let room : length es < 8 = few _ _ _ (sym (len-allocs_of es c.self.invariant.rising)) (ap map.len c.self.view_is) c.requires.room in
    let long = length-insert es c.in-Err.place (c.args.alloc, c.args.leaving) gap.within in
    rw (c.with.ensures, slots_with slots c.self.invariant c.in-Err.place (c.args.alloc, c.args.leaving) c.rotate_right.new.self gap.within room c.rotate_right.ensures.after)
    (are_slots (insert es c.in-Err.place (c.args.alloc, c.args.leaving)) (rising-insert es c.args.alloc c.in-Err.place c.args.leaving c.self.invariant.rising gap) (omega arith))

pub returns : goal.returns
returns c =
    let slots = c.self.inside.slots in
    let es = filled slots in
    let gap : IsGapFor es c.args.alloc c.in-Err.place = c.in-Err.ensures.absent in
    let room : length es < 8 = few _ _ _ (sym (len-allocs_of es c.self.invariant.rising)) (ap map.len c.self.view_is) c.requires.room in
    rw c.with.ensures (ap (λ xs. allocs_of (filled xs)) (slots_with slots c.self.invariant c.in-Err.place (c.args.alloc, c.args.leaving) c.rotate_right.new.self gap.within room c.rotate_right.ensures.after)
    ∙ ap allocs_of (filled-slots_of (insert es c.in-Err.place (c.args.alloc, c.args.leaving)))
    ∙ allocs_of-insert es c.args.alloc c.in-Err.place c.args.leaving c.self.invariant.rising gap
    ∙ ap (λ m. map.insert m c.args.alloc c.args.leaving) c.self.view_is)
