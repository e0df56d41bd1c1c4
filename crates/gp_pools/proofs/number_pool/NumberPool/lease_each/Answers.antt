use Rattle.std.proofs.Common.{◌≡◌, ℕ, take, sym, ap, ◌∙◌, subst, inl, inr, arith, rules}
use Rattle.std.proofs.lemmas.Bool.{cases_lt}
use Rattle.gp_pools.specs.Pool.{IsSettled, Pool}
use Rattle.gp_pools.specs.Allocs.{number_at}
use Rattle.gp_pools.specs.Slots.{filled}
use Rattle.gp_pools.proofs.AllocPlaces.{Entry}
use Rattle.gp_pools.proofs.Each.{lease_each, lease_each-all, all_leased_in, lease_more, leased_below_more, AreLeasedBelow}
use Rattle.gp_pools.proofs.Slots.{filled_before, next_empty, next_filled}
use Rattle.gp_pools.proofs.number_pool.NumberPool.lease_each.Goals as goal

pub loop-slot-preserved-in_default : goal.loop-slot-preserved-in_default
loop-slot-preserved-in_default g c =
    let es = filled c.args.slots.now in
    let same = next_empty c.args.slots.now c.loop-slot.slot-index c.loop-slot-test.true c.in_default.is in
    record {
      pool = subst (λ (k : ℕ). c.loop-slot.self ≡ lease_each c.args.self.now (take k es)) (sym same) c.loop-slot.invariant.pool;
      below = subst (λ (k : ℕ). AreLeasedBelow c.loop-slot.self es k) (sym same) c.loop-slot.invariant.below;
      own = λ k low inside. c.loop-slot.invariant.own k (omega (arith, same)) inside;
    }

pub lease_again-requires : goal.lease_again-requires
lease_again-requires g c =
    let next = next_filled c.args.slots.now c.loop-slot.slot-index (c.in-Some.number, c.in-Some.field-0-1) c.loop-slot-test.true c.in-Some.is in
    let number = ap (λ (e : Entry). e.0) next.here in
    (search rules, subst (IsSettled c.loop-slot.self) number (c.loop-slot.invariant.below.ahead (filled_before c.args.slots.now c.loop-slot.slot-index) (omega arith) next.within))

pub loop-slot-preserved : goal.loop-slot-preserved
loop-slot-preserved g c =
    let now = c.loop-slot.self in
    let es = filled c.args.slots.now in
    let at = filled_before c.args.slots.now c.loop-slot.slot-index in
    let next = next_filled c.args.slots.now c.loop-slot.slot-index (c.in-Some.number, c.in-Some.field-0-1) c.loop-slot-test.true c.in-Some.is in
    let number : number_at es at ≡ c.in-Some.number = ap (λ (e : Entry). e.0) next.here in
    record {
      pool = subst (λ (k : ℕ). c.lease_again.new.self ≡ lease_each c.args.self.now (take k es)) (sym next.more) (rw (c.lease_again.ensures.pool, ← number) (lease_more c.args.self.now now es at next.within c.loop-slot.invariant.pool));
      below = subst (λ (k : ℕ). AreLeasedBelow c.lease_again.new.self es k) (sym next.more) (rw (c.lease_again.ensures.pool, ← number) (leased_below_more now es at c.requires.rising next.within c.loop-slot.invariant.below));
      own = λ k low inside. elim (cases_lt k at) [
        | inl before ↦ c.loop-slot.invariant.own k before inside
        | inr from ↦
            let more = next.more in
            let here : k ≡ at = omega arith in
            let same : number_at es k ≡ c.in-Some.number = ap (number_at es) here ∙ number in
            let kept = c.loop-slot.invariant.pool ∙ lease_each-all c.args.self.now (take at es) in
            let first : now.first ≡ c.args.self.now.first = ap (λ (p : Pool). p.first) kept in
            let last : now.last ≡ c.args.self.now.last = ap (λ (p : Pool). p.last) kept in
            let own = c.lease_again.ensures.own in
            (omega (arith, own.0, first, same), omega (arith, own.1, last, same))
      ];
    }

pub returns-clause-pool : goal.returns-clause-pool
returns-clause-pool g c = all_leased_in c.args.self.now c.loop-slot.self c.args.slots.now c.loop-slot.slot-index (omega arith) c.loop-slot.invariant.pool
