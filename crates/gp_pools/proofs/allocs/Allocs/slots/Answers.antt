use Rattle.std.proofs.Common.{◌≡◌, get_or, set, None, inl, inr, refl, sym, ap, subst, ◌∙◌, arith}
use Rattle.std.proofs.lemmas.Bool.{cases_lt}
use Rattle.std.proofs.lemmas.List.{ext_get_or, get_or-set_other, get_or-set_same, length-set}
use Rattle.gp_pools.specs.Allocs.{IsRising}
use Rattle.gp_pools.specs.Slots.{filled}
use Rattle.gp_pools.specs.SameSlots.{entries-allocs_of, same_slots}
use Rattle.gp_pools.proofs.Slots.{eight, read_at}
use Rattle.gp_pools.proofs.allocs.Allocs.slots.Goals as goal

pub loop-place-init : goal.loop-place-init
loop-place-init c = record { eight = refl; same = λ i low. absurd (omega arith) }

pub loop-place-preserved : goal.loop-place-preserved
loop-place-preserved c =
    let shown = c.loop-place.shown in
    let here = c.loop-place.place in
    let long = c.loop-place.invariant.eight in
    let inside = c.loop-place-test.true in
    record {
      eight = length-set shown here c.get.result ∙ long;
      same = λ i low. elim (cases_lt i here) [
        | inl before ↦ get_or-set_other shown here i c.get.result None (omega arith) ∙ c.loop-place.invariant.same i before
        | inr last ↦
            let is : i ≡ here = omega arith in
            ap (λ k. get_or (set shown here c.get.result) k None) is
            ∙ get_or-set_same shown here c.get.result None (omega arith)
            ∙ sym (read_at c.self.inside.slots c.self.invariant here _ _ inside c.get.ensures)
            ∙ ap (λ k. get_or c.self.inside.slots k None) (sym is)
      ];
    }

all_shown : (c : goal.After-loop-place) → c.loop-place.shown ≡ c.self.inside.slots
all_shown c =
    let long = c.loop-place.invariant.eight in
    let whole = c.loop-place-test.false in
    let size = eight c.self.inside.slots c.self.invariant in
    ext_get_or None _ _ (omega arith) (λ i within. c.loop-place.invariant.same i (omega arith))

pub returns-clause-slots : goal.returns-clause-slots
returns-clause-slots c = rw (← c.self.view_is) (all_shown c ∙ sym (same_slots c.self.inside.slots c.self.invariant))

pub returns-clause-entries : goal.returns-clause-entries
returns-clause-entries c = rw (← c.self.view_is) (ap filled (all_shown c) ∙ sym (entries-allocs_of _ c.self.invariant.rising))

pub returns-clause-rising : goal.returns-clause-rising
returns-clause-rising c = subst (λ slots. IsRising (filled slots)) (sym (all_shown c)) c.self.invariant.rising
