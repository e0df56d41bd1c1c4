-- Each of some rising numbers settled, leased again or given back, one after another.
use Rattle.std.proofs.Common.{◌≡◌, ℕ, suc, ◌+◌, ◌<◌, ◌≤◌, Bool, true, false, not, ◌&&◌, ◌||◌, List, [], ◌∷◌, ◌++◌, length, map, take, get_or, refl, sym, ap, ◌∙◌, inl, inr, arith}
use Rattle.std.proofs.Math.Seq.{take-length, take-suc}
use Rattle.std.proofs.lemmas.Bool.{cases_lt}
use Rattle.std.specs.Ordering.{nat_cmp, eq_by_cmp}
use Rattle.std.specs.Cmp.{nat_cmp_total}
use Rattle.std.specs.FinSet.{FinSet, empty, contains, insert, remove, union, difference, from_list, contains-empty, contains-insert, contains-remove, contains-union, contains-difference}
use Rattle.gp_numbers.proofs.Members.{contains-insert_same, contains-insert_other, contains-remove_other, same_members}
use Rattle.gp_pools.specs.Pool.{Pool, IsLeased, IsSettled, pool_with_settled, pool_with_lease_again, pool_without_lease, pool_with_all_settled, pool_with_all_leased_again, pool_without_all}
use Rattle.gp_pools.specs.Allocs.{number_at, IsRising}
use Rattle.gp_pools.specs.Slots.{filled, numbers_in}
use Rattle.gp_pools.proofs.AllocPlaces.{Entry, nowhere}
use Rattle.gp_pools.proofs.Slots.{Slots, filled_all, filled_before}

-- each of these numbers is settled, one after another; the numbers stand with their flags
abbrev pub settle_each : Pool → List Entry → Pool
settle_each pool [] = pool
settle_each pool (e ∷ es) = settle_each (pool_with_settled pool e.0) es

-- each of these numbers is leased again
abbrev pub lease_each : Pool → List Entry → Pool
lease_each pool [] = pool
lease_each pool (e ∷ es) = lease_each (pool_with_lease_again pool e.0) es

-- each of these numbers is given back
abbrev pub give_back_each : Pool → List Entry → Pool
give_back_each pool [] = pool
give_back_each pool (e ∷ es) = give_back_each (pool_without_lease pool e.0) es

longer : (es : List Entry) (i : ℕ) → i < length es → take (i + 1) es ≡ take i es ++ get_or es i nowhere ∷ []
longer es i within = let next : i + 1 ≡ suc i = omega arith in ap (λ k. take k es) next ∙ take-suc es i nowhere within

settle-append : (pool : Pool) (xs ys : List Entry) → settle_each pool (xs ++ ys) ≡ settle_each (settle_each pool xs) ys
settle-append pool [] ys = refl
settle-append pool (x ∷ xs) ys = settle-append (pool_with_settled pool x.0) xs ys

lease-append : (pool : Pool) (xs ys : List Entry) → lease_each pool (xs ++ ys) ≡ lease_each (lease_each pool xs) ys
lease-append pool [] ys = refl
lease-append pool (x ∷ xs) ys = lease-append (pool_with_lease_again pool x.0) xs ys

give_back-append : (pool : Pool) (xs ys : List Entry) → give_back_each pool (xs ++ ys) ≡ give_back_each (give_back_each pool xs) ys
give_back-append pool [] ys = refl
give_back-append pool (x ∷ xs) ys = give_back-append (pool_without_lease pool x.0) xs ys

pub settle_more : (pool now : Pool) (es : List Entry) (i : ℕ) → i < length es → now ≡ settle_each pool (take i es) → pool_with_settled now (number_at es i) ≡ settle_each pool (take (i + 1) es)
settle_more pool now es i within is =
    ap (λ (p : Pool). pool_with_settled p (number_at es i)) is ∙ sym (ap (settle_each pool) (longer es i within) ∙ settle-append pool (take i es) (get_or es i nowhere ∷ []))

pub lease_more : (pool now : Pool) (es : List Entry) (i : ℕ) → i < length es → now ≡ lease_each pool (take i es) → pool_with_lease_again now (number_at es i) ≡ lease_each pool (take (i + 1) es)
lease_more pool now es i within is =
    ap (λ (p : Pool). pool_with_lease_again p (number_at es i)) is ∙ sym (ap (lease_each pool) (longer es i within) ∙ lease-append pool (take i es) (get_or es i nowhere ∷ []))

pub give_back_more : (pool now : Pool) (es : List Entry) (i : ℕ) → i < length es → now ≡ give_back_each pool (take i es) → pool_without_lease now (number_at es i) ≡ give_back_each pool (take (i + 1) es)
give_back_more pool now es i within is =
    ap (λ (p : Pool). pool_without_lease p (number_at es i)) is ∙ sym (ap (give_back_each pool) (longer es i within) ∙ give_back-append pool (take i es) (get_or es i nowhere ∷ []))

-- ---- all of them at once

first_leaves : (e s t : Bool) → ((not e && s) && not t) ≡ (s && not (e || t))
first_leaves true true t = refl
first_leaves true false t = refl
first_leaves false s t = refl

first_joins : (e s t : Bool) → ((e || s) || t) ≡ (s || (e || t))
first_joins true true t = refl
first_joins true false t = refl
first_joins false s t = refl

and_all : (s : Bool) → (s && not false) ≡ s
and_all true = refl
and_all false = refl

or_none : (s : Bool) → (s || false) ≡ s
or_none true = refl
or_none false = refl

less_none : (s : FinSet nat_cmp) → difference s empty ≡ s
less_none s = same_members _ _ (λ q. contains-difference nat_cmp_total s empty q ∙ ap (λ b. contains s q && not b) (contains-empty nat_cmp q) ∙ and_all (contains s q))

with_none : (s : FinSet nat_cmp) → union s empty ≡ s
with_none s = same_members _ _ (λ q. contains-union nat_cmp_total s empty q ∙ ap (λ b. contains s q || b) (contains-empty nat_cmp q) ∙ or_none (contains s q))

less_first : (s t : FinSet nat_cmp) (k : ℕ) → difference (remove s k) t ≡ difference s (insert t k)
less_first s t k = same_members _ _ (λ q.
    contains-difference nat_cmp_total (remove s k) t q ∙ ap (λ b. b && not (contains t q)) (contains-remove nat_cmp_total s k q)
    ∙ first_leaves (eq_by_cmp nat_cmp q k) (contains s q) (contains t q)
    ∙ sym (contains-difference nat_cmp_total s (insert t k) q ∙ ap (λ b. contains s q && not b) (contains-insert nat_cmp_total t k q)))

with_first : (s t : FinSet nat_cmp) (k : ℕ) → union (insert s k) t ≡ union s (insert t k)
with_first s t k = same_members _ _ (λ q.
    contains-union nat_cmp_total (insert s k) t q ∙ ap (λ b. b || contains t q) (contains-insert nat_cmp_total s k q)
    ∙ first_joins (eq_by_cmp nat_cmp q k) (contains s q) (contains t q)
    ∙ sym (contains-union nat_cmp_total s (insert t k) q ∙ ap (λ b. contains s q || b) (contains-insert nat_cmp_total t k q)))

-- the numbers of entries
abbrev pub in_all : List Entry → FinSet nat_cmp
in_all es = from_list (map (λ e. e.0) es)

with_sets : (pool : Pool) (a b c d : FinSet nat_cmp) → a ≡ b → c ≡ d → ◌≡◌ {A = Pool} (record pool { leased = a; settled = c }) (record pool { leased = b; settled = d })
with_sets pool a b c d same alike = ap (λ (s : FinSet nat_cmp). record pool { leased = s; settled = c }) same ∙ ap (λ (s : FinSet nat_cmp). record pool { leased = b; settled = s }) alike

pub settle_each-all : (pool : Pool) (es : List Entry) → settle_each pool es ≡ pool_with_all_settled pool (in_all es)
settle_each-all pool [] = sym (with_sets pool _ _ _ _ (less_none pool.leased) (with_none pool.settled))
settle_each-all pool (e ∷ es) =
    settle_each-all (pool_with_settled pool e.0) es
    ∙ with_sets pool _ _ _ _ (less_first pool.leased (in_all es) e.0) (with_first pool.settled (in_all es) e.0)

pub lease_each-all : (pool : Pool) (es : List Entry) → lease_each pool es ≡ pool_with_all_leased_again pool (in_all es)
lease_each-all pool [] = sym (with_sets pool _ _ _ _ (with_none pool.leased) (less_none pool.settled))
lease_each-all pool (e ∷ es) =
    lease_each-all (pool_with_lease_again pool e.0) es
    ∙ with_sets pool _ _ _ _ (with_first pool.leased (in_all es) e.0) (less_first pool.settled (in_all es) e.0)

pub give_back_each-all : (pool : Pool) (es : List Entry) → give_back_each pool es ≡ pool_without_all pool (in_all es)
give_back_each-all pool [] = sym (with_sets pool _ _ _ _ (less_none pool.leased) refl)
give_back_each-all pool (e ∷ es) =
    give_back_each-all (pool_without_lease pool e.0) es
    ∙ with_sets pool _ _ _ _ (less_first pool.leased (in_all es) e.0) refl

-- what all places have, once a loop has gone over them
all_places : (slots : Slots) (i : ℕ) → length slots ≤ i → take (filled_before slots i) (filled slots) ≡ filled slots
all_places slots i whole = ap (λ k. take k (filled slots)) (filled_all slots i whole) ∙ take-length (filled slots)

pub all_settled_in : (pool now : Pool) (slots : Slots) (i : ℕ) → length slots ≤ i → now ≡ settle_each pool (take (filled_before slots i) (filled slots)) → now ≡ pool_with_all_settled pool (numbers_in slots)
all_settled_in pool now slots i whole is = is ∙ ap (settle_each pool) (all_places slots i whole) ∙ settle_each-all pool (filled slots)

pub all_leased_in : (pool now : Pool) (slots : Slots) (i : ℕ) → length slots ≤ i → now ≡ lease_each pool (take (filled_before slots i) (filled slots)) → now ≡ pool_with_all_leased_again pool (numbers_in slots)
all_leased_in pool now slots i whole is = is ∙ ap (lease_each pool) (all_places slots i whole) ∙ lease_each-all pool (filled slots)

pub all_given_back_in : (pool now : Pool) (slots : Slots) (i : ℕ) → length slots ≤ i → now ≡ give_back_each pool (take (filled_before slots i) (filled slots)) → now ≡ pool_without_all pool (numbers_in slots)
all_given_back_in pool now slots i whole is = is ∙ ap (give_back_each pool) (all_places slots i whole) ∙ give_back_each-all pool (filled slots)

-- ---- on the way

-- the numbers before `i` are settled and those from it on are leased
pub record AreSettledBelow (pool : Pool) (es : List Entry) (i : ℕ) : Type 0 where
  pub done : (k : ℕ) → k < i → k < length es → IsSettled pool (number_at es k)
  pub ahead : (k : ℕ) → i ≤ k → k < length es → IsLeased pool (number_at es k)

pub settled_below_more : (pool : Pool) (es : List Entry) (i : ℕ) → IsRising es → i < length es → AreSettledBelow pool es i → AreSettledBelow (pool_with_settled pool (number_at es i)) es (i + 1)
settled_below_more pool es i rising within h = record {
  done = λ k low inside. elim (cases_lt k i) [
    | inl before ↦ let less = rising.rising k i before within in contains-insert_other pool.settled (number_at es i) (number_at es k) (λ same. omega arith) ∙ h.done k before inside
    | inr from ↦ let same : k ≡ i = omega arith in rw same (contains-insert_same pool.settled (number_at es i))
  ];
  ahead = λ k high inside. let more = rising.rising i k (omega arith) inside in contains-remove_other pool.leased (number_at es i) (number_at es k) (λ same. omega arith) ∙ h.ahead k (omega arith) inside;
}

-- the numbers before `i` are leased and those from it on are settled
pub record AreLeasedBelow (pool : Pool) (es : List Entry) (i : ℕ) : Type 0 where
  pub done : (k : ℕ) → k < i → k < length es → IsLeased pool (number_at es k)
  pub ahead : (k : ℕ) → i ≤ k → k < length es → IsSettled pool (number_at es k)

pub leased_below_more : (pool : Pool) (es : List Entry) (i : ℕ) → IsRising es → i < length es → AreLeasedBelow pool es i → AreLeasedBelow (pool_with_lease_again pool (number_at es i)) es (i + 1)
leased_below_more pool es i rising within h = record {
  done = λ k low inside. elim (cases_lt k i) [
    | inl before ↦ let less = rising.rising k i before within in contains-insert_other pool.leased (number_at es i) (number_at es k) (λ same. omega arith) ∙ h.done k before inside
    | inr from ↦ let same : k ≡ i = omega arith in rw same (contains-insert_same pool.leased (number_at es i))
  ];
  ahead = λ k high inside. let more = rising.rising i k (omega arith) inside in contains-remove_other pool.settled (number_at es i) (number_at es k) (λ same. omega arith) ∙ h.ahead k (omega arith) inside;
}

-- the numbers from `i` on are leased
pub leased_ahead_more : (pool : Pool) (es : List Entry) (i : ℕ) → IsRising es → i < length es → ((k : ℕ) → i ≤ k → k < length es → IsLeased pool (number_at es k))
    → (k : ℕ) → i + 1 ≤ k → k < length es → IsLeased (pool_without_lease pool (number_at es i)) (number_at es k)
leased_ahead_more pool es i rising within ahead k high inside =
    let more = rising.rising i k (omega arith) inside in contains-remove_other pool.leased (number_at es i) (number_at es k) (λ same. omega arith) ∙ ahead k (omega arith) inside
