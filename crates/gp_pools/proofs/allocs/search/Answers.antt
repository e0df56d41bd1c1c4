use Rattle.std.proofs.Common.{◌≡◌, ℕ, ◌<◌, ap, subst, sym, ◌∙◌, inl, inr, arith}
use Rattle.std.proofs.lemmas.Bool.{cases_lt}
use Rattle.gp_pools.specs.Allocs.{number_at}
use Rattle.gp_pools.specs.Slots.{filled}
use Rattle.gp_pools.proofs.AllocPlaces.{Entry}
use Rattle.gp_pools.proofs.Slots.{entry_at, gap_at, nothing_at, read_at}
use Rattle.gp_pools.proofs.allocs.search.Goals as goal

pub returns-in_default-clause-absent : goal.returns-in_default-clause-absent
returns-in_default-clause-absent c =
    let here = entry_at c.args.slots.now c.requires c.loop-place.place (c.in-Some-2.number, c.in-Some-2.field-0-1) (read_at c.args.slots.now c.requires c.loop-place.place _ _ c.loop-place-test.true c.get.ensures ∙ c.in-Some-2.is) in
    let first = entry_at c.args.slots.now c.requires c.loop-place.place (c.in-Some.number, c.in-Some.field-0-1) (read_at c.args.slots.now c.requires c.loop-place.place _ _ c.loop-place-test.true c.get.ensures ∙ c.in-Some.is) in
    let same : c.in-Some-2.number ≡ c.in-Some.number = ap (λ (e : Entry). e.0) (sym here.1 ∙ first.1) in
    let at : number_at (filled c.args.slots.now) c.loop-place.place ≡ c.in-Some-2.number = ap (λ (e : Entry). e.0) here.1 in
    gap_at c.args.slots.now c.requires c.loop-place.place c.args.alloc c.loop-place.invariant.within c.loop-place.invariant.before (λ low. omega (arith, c.if-number-alloc-2.false))

pub returns-in_default-2-clause-absent : goal.returns-in_default-2-clause-absent
returns-in_default-2-clause-absent c =
    let beyond = nothing_at c.args.slots.now c.requires c.loop-place.place (read_at c.args.slots.now c.requires c.loop-place.place _ _ c.loop-place-test.true c.get.ensures ∙ c.in_default.is) in
    gap_at c.args.slots.now c.requires c.loop-place.place c.args.alloc c.loop-place.invariant.within c.loop-place.invariant.before (λ low. absurd (omega arith))

pub loop-place-preserved : goal.loop-place-preserved
loop-place-preserved c =
    let here = entry_at c.args.slots.now c.requires c.loop-place.place (c.in-Some.number, c.in-Some.field-0-1) (read_at c.args.slots.now c.requires c.loop-place.place _ _ c.loop-place-test.true c.get.ensures ∙ c.in-Some.is) in
    let at : number_at (filled c.args.slots.now) c.loop-place.place ≡ c.in-Some.number = ap (λ (e : Entry). e.0) here.1 in
    let within = here.0 in
    record {
      within = omega arith;
      before = λ j less. elim (cases_lt j c.loop-place.place) [
        | inl low ↦ c.loop-place.invariant.before j low
        | inr high ↦ let same : j ≡ c.loop-place.place = omega arith in subst (λ (k : ℕ). number_at (filled c.args.slots.now) k < c.args.alloc) (sym same) (omega arith)
      ];
    }
