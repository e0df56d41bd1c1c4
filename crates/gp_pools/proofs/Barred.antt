-- The least number that is not out and not barred.
use Rattle.std.proofs.Common.{◌≡◌, ℕ, ◌<◌, ◌≤◌, Bool, true, false, ◌||◌, refl, sym, ap, ◌∙◌, inl, inr, arith}
use Rattle.std.proofs.lemmas.Bool.{cases_Bool, false≢true}
use Rattle.std.specs.Ordering.{nat_cmp}
use Rattle.std.specs.Cmp.{nat_cmp_total}
use Rattle.std.specs.FinSet.{FinSet, contains, union, contains-union}
use Rattle.gp_numbers.specs.Numbers.{IsIn, AreAllIn, IsLeastOutside}
use Rattle.gp_pools.specs.Pool.{Pool, IsFree}
use Rattle.gp_pools.proofs.Pools.{not_leased, not_settled}

-- out, or barred
in_either : (pool : Pool) (barred : FinSet nat_cmp) (n : ℕ) → (contains pool.leased n || contains (union pool.settled barred) n) ≡ (contains pool.leased n || (contains pool.settled n || contains barred n))
in_either pool barred n = ap (λ b. contains pool.leased n || b) (contains-union nat_cmp_total pool.settled barred n)

-- neither
in_neither : (pool : Pool) (barred : FinSet nat_cmp) (n : ℕ) → IsFree pool n → contains barred n ≡ false → IsIn pool.leased (union pool.settled barred) n → ⊥
in_neither pool barred n free clear has =
    false≢true (sym (in_either pool barred n ∙ ap (λ b. b || (contains pool.settled n || contains barred n)) (not_leased pool n free.2)
    ∙ ap (λ b. b || contains barred n) (not_settled pool n free.2) ∙ clear) ∙ has)

pub none_free : (pool : Pool) (barred : FinSet nat_cmp) (end : ℕ) → pool.last < end → AreAllIn pool.leased (union pool.settled barred) pool.first end
    → (n : ℕ) → IsFree pool n → contains barred n ≡ false → ⊥
none_free pool barred end held all n free clear = in_neither pool barred n free clear (all n free.0 (let high : n ≤ pool.last = free.1 in omega arith))

or_left : (a b : Bool) → a ≡ true → (a || b) ≡ true
or_left a b e = ap (λ x. x || b) e

out_more : (l s b : Bool) → (l || s) ≡ true → (l || (s || b)) ≡ true
out_more true s b e = refl
out_more false true b e = refl
out_more false false b e = absurd (false≢true e)

or_right : (l s b : Bool) → b ≡ true → (l || (s || b)) ≡ true
or_right true s b e = refl
or_right false true b e = refl
or_right false false b e = e

pub least_open : (pool : Pool) (barred : FinSet nat_cmp) (end n : ℕ) → n ≤ pool.last → IsLeastOutside pool.leased (union pool.settled barred) pool.first end n → IsFree pool n × (contains barred n ≡ false)
least_open pool barred end n high least = (
  (least.from, high, λ out. least.outside (in_either pool barred n ∙ out_more (contains pool.leased n) (contains pool.settled n) (contains barred n) out)),
  elim (cases_Bool (contains barred n)) [
    | inl has ↦ absurd (least.outside (in_either pool barred n ∙ or_right (contains pool.leased n) (contains pool.settled n) (contains barred n) has))
    | inr clear ↦ clear
  ],
)

pub none_below : (pool : Pool) (barred : FinSet nat_cmp) (end least : ℕ) → pool.last < least → IsLeastOutside pool.leased (union pool.settled barred) pool.first end least
    → (n : ℕ) → IsFree pool n → contains barred n ≡ false → ⊥
none_below pool barred end least past h = none_free pool barred least past h.least
