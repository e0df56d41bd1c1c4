use Rattle.std.proofs.Common.{◌≡◌, ℕ, take, sym, ap, subst, arith, rules}
use Rattle.gp_pools.specs.Pool.{IsLeased}
use Rattle.gp_pools.specs.Allocs.{number_at}
use Rattle.gp_pools.specs.Slots.{filled}
use Rattle.gp_pools.proofs.AllocPlaces.{Entry}
use Rattle.gp_pools.proofs.Each.{give_back_each, all_given_back_in, give_back_more, leased_ahead_more}
use Rattle.gp_pools.proofs.Slots.{filled_before, next_empty, next_filled}
use Rattle.gp_pools.proofs.number_pool.NumberPool.give_back_each.Goals as goal

pub loop-slot-preserved-in_default : goal.loop-slot-preserved-in_default
loop-slot-preserved-in_default g c =
    let es = filled c.args.slots.now in
    let same = next_empty c.args.slots.now c.loop-slot.slot-index c.loop-slot-test.true c.in_default.is in
    record {
      pool = subst (λ (k : ℕ). c.loop-slot.self ≡ give_back_each c.args.self.now (take k es)) (sym same) c.loop-slot.invariant.pool;
      ahead = λ k from inside. c.loop-slot.invariant.ahead k (omega (arith, same)) inside;
    }

pub give_back-requires : goal.give_back-requires
give_back-requires g c =
    let next = next_filled c.args.slots.now c.loop-slot.slot-index (c.in-Some.number, c.in-Some.field-0-1) c.loop-slot-test.true c.in-Some.is in
    let number = ap (λ (e : Entry). e.0) next.here in
    (search rules, subst (IsLeased c.loop-slot.self) number (c.loop-slot.invariant.ahead (filled_before c.args.slots.now c.loop-slot.slot-index) (omega arith) next.within))

pub loop-slot-preserved : goal.loop-slot-preserved
loop-slot-preserved g c =
    let now = c.loop-slot.self in
    let es = filled c.args.slots.now in
    let at = filled_before c.args.slots.now c.loop-slot.slot-index in
    let next = next_filled c.args.slots.now c.loop-slot.slot-index (c.in-Some.number, c.in-Some.field-0-1) c.loop-slot-test.true c.in-Some.is in
    let number : number_at es at ≡ c.in-Some.number = ap (λ (e : Entry). e.0) next.here in
    record {
      pool = subst (λ (k : ℕ). c.give_back.new.self ≡ give_back_each c.args.self.now (take k es)) (sym next.more) (rw (c.give_back.ensures.pool, ← number) (give_back_more c.args.self.now now es at next.within c.loop-slot.invariant.pool));
      ahead = λ k from inside. let more = next.more in rw (c.give_back.ensures.pool, ← number) (leased_ahead_more now es at c.requires.rising next.within c.loop-slot.invariant.ahead k (omega arith) inside);
    }

pub returns : goal.returns
returns g c = all_given_back_in c.args.self.now c.loop-slot.self c.args.slots.now c.loop-slot.slot-index (omega arith) c.loop-slot.invariant.pool
