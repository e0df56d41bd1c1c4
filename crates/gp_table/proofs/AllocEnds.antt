-- The pool of Alloc-IDs after the calls on one unit: nothing is leased, and what is settled.
use Rattle.std.proofs.Common.{◌≡◌, ℕ, Bool, true, false, not, ◌||◌, ◌&&◌, cond, Option, None, Some, refl, sym, ap, ◌∙◌, is_some, inl, inr, eq-eqb}
use Rattle.std.proofs.lemmas.Bool.{cases_eq, false≢true, ne_eqb}
use Rattle.std.specs.Ordering.{nat_cmp, eq_by_cmp}
use Rattle.std.specs.Cmp.{nat_cmp_total, unsigned_tied}
use Rattle.std.specs.FinMap as map
use Rattle.std.specs.FinSet.{contains}
use Rattle.gp_pools.specs.Allocs.{AllocMap, AreLeased, numbers_of}
use Rattle.gp_pools.specs.Pool.{Pool, pool_with_all_leased_again, pool_with_all_settled, pool_with_lease, pool_without_all, pool_without_lease}
use Rattle.gp_unit.specs.Rows.{allocs_left}
use Rattle.gp_unit.specs.Units.{freed_alloc}
use Rattle.gp_table.specs.Active.{pool_freed}
use Rattle.gp_table.proofs.Numbers.{moved}
use Rattle.gp_table.proofs.PoolMembers.{Holds, plain, is_in, in_entries, holds-lease, holds-give_back, holds-lease_all, holds-settle_all, holds-give_back_all}

-- nothing is leased, and just these are settled
pub record Ends (start now : Pool) (settled : ℕ → Bool) : Type 0 where
  pub same_first : now.first ≡ start.first
  pub same_last : now.last ≡ start.last
  pub idle : (number : ℕ) → contains now.leased number ≡ false
  pub are_settled : (number : ℕ) → contains now.settled number ≡ settled number

abbrev pub has_in : AllocMap → ℕ → Bool
has_in m number = is_some (map.get m number)

pub ends-by : (start now : Pool) (leased settled those : ℕ → Bool) → Holds now start.first start.last start.limit leased settled → ((q : ℕ) → leased q ≡ false) → ((q : ℕ) → settled q ≡ those q) → Ends start now those
ends-by start now leased settled those h idle same = record {
  same_first = h.same_first;
  same_last = h.same_last;
  idle = λ q. h.are_leased q ∙ idle q;
  are_settled = λ q. h.are_settled q ∙ same q;
}

pub ends-same : (a : Pool) (old new : ℕ → Bool) → ((q : ℕ) → contains a.leased q ≡ false) → ((q : ℕ) → old q ≡ true → contains a.settled q ≡ true) → ((q : ℕ) → new q ≡ old q) → Ends a a (moved (contains a.settled) old new)
ends-same a old new idle own same = record {
  same_first = refl;
  same_last = refl;
  idle = idle;
  are_settled = λ q. stays (contains a.settled q) (old q) (own q) ∙ ap (λ b. b || (contains a.settled q && not (old q))) (sym (same q));
}
  where
    stays : (s n : Bool) → (n ≡ true → s ≡ true) → s ≡ (n || (s && not n))
    stays true true h = refl
    stays true false h = refl
    stays false true h = absurd (false≢true (h refl))
    stays false false h = refl

-- ---- Bools

both_out : (a b : Bool) → b ≡ false → (not a && (a || b)) ≡ false
both_out true b e = refl
both_out false b e = e

after_remove : (a s : Bool) → (not a && s) ≡ (false || (s && not a))
after_remove true true = refl
after_remove true false = refl
after_remove false true = refl
after_remove false false = refl

after_put : (n a s : Bool) → (n || (not a && s)) ≡ (n || (s && not a))
after_put n true true = refl
after_put n true false = refl
after_put n false true = refl
after_put n false false = refl

out_of : (n a b l : Bool) → (n ≡ false → (a || (b || l)) ≡ false) → (not n && (a || (b || l))) ≡ false
out_of true a b l h = refl
out_of false a b l h = h refl

idle_again : (n l : Bool) → l ≡ false → (not n && l) ≡ false
idle_again true l e = refl
idle_again false l e = e

-- ---- a unit more, and one less

module _ (a : Pool) (idle : (q : ℕ) → contains a.leased q ≡ false) where
  none_in : (q : ℕ) → is_in (map.entries (map.empty {K = ℕ} {X = Bool} {R = nat_cmp})) q ≡ false
  none_in q = in_entries map.empty q ∙ ap is_some (map.get-empty nat_cmp q)

  -- no Alloc-IDs settled
  pub ends-add : Ends a (pool_with_all_settled a (numbers_of (map.empty {K = ℕ} {X = Bool} {R = nat_cmp}))) (contains a.settled)
  ends-add =
      ends-by a _ _ _ _ (holds-settle_all a.first a.last a.limit (contains a.leased) (contains a.settled) a (map.entries map.empty) (plain a))
      (λ q. idle_again (is_in (map.entries map.empty) q) (contains a.leased q) (idle q))
      (λ q. ap (λ b. b || contains a.settled q) (none_in q))

  module _ (m : AllocMap) where
    waked : Holds (pool_with_all_leased_again a (numbers_of m)) a.first a.last a.limit (λ q. is_in (map.entries m) q || contains a.leased q) (λ q. not (is_in (map.entries m) q) && contains a.settled q)
    waked = holds-lease_all a.first a.last a.limit (contains a.leased) (contains a.settled) a (map.entries m) (plain a)

    freed : Holds (pool_without_all (pool_with_all_leased_again a (numbers_of m)) (numbers_of m)) a.first a.last a.limit
        (λ q. not (is_in (map.entries m) q) && (is_in (map.entries m) q || contains a.leased q)) (λ q. not (is_in (map.entries m) q) && contains a.settled q)
    freed = holds-give_back_all a.first a.last a.limit _ _ (pool_with_all_leased_again a (numbers_of m)) (map.entries m) waked

    -- these leased again and given back
    pub ends-remove : Ends a (pool_without_all (pool_with_all_leased_again a (numbers_of m)) (numbers_of m)) (moved (contains a.settled) (has_in m) (λ n. false))
    ends-remove =
        ends-by a _ _ _ _ freed (λ q. both_out (is_in (map.entries m) q) (contains a.leased q) (idle q))
        (λ q. after_remove (is_in (map.entries m) q) (contains a.settled q) ∙ ap (λ b. false || (contains a.settled q && not b)) (in_entries m q))

    -- and none settled after it
    pub ends-restart : Ends a (pool_with_all_settled (pool_without_all (pool_with_all_leased_again a (numbers_of m)) (numbers_of m)) (numbers_of (map.empty {K = ℕ} {X = Bool} {R = nat_cmp}))) (moved (contains a.settled) (has_in m) (has_in map.empty))
    ends-restart =
        ends-by a _ _ _ _ (holds-settle_all a.first a.last a.limit _ _ (pool_without_all (pool_with_all_leased_again a (numbers_of m)) (numbers_of m)) (map.entries map.empty) freed)
        (λ q. idle_again (is_in (map.entries map.empty) q) _ (both_out (is_in (map.entries m) q) (contains a.leased q) (idle q)))
        (λ q.
        after_put (is_in (map.entries map.empty) q) (is_in (map.entries m) q) (contains a.settled q)
        ∙ ap (λ b. b || (contains a.settled q && not (is_in (map.entries m) q))) (in_entries map.empty q)
        ∙ ap (λ b. has_in map.empty q || (contains a.settled q && not b)) (in_entries m q))

    -- these leased again and settled
    pub ends-waked : Ends a (pool_with_all_settled (pool_with_all_leased_again a (numbers_of m)) (numbers_of m)) (moved (contains a.settled) (has_in m) (has_in m))
    ends-waked =
        ends-by a _ _ _ _ (holds-settle_all a.first a.last a.limit _ _ (pool_with_all_leased_again a (numbers_of m)) (map.entries m) waked)
        (λ q. both_out (is_in (map.entries m) q) (contains a.leased q) (idle q))
        (λ q.
        after_put (is_in (map.entries m) q) (is_in (map.entries m) q) (contains a.settled q)
        ∙ ap (λ b. b || (contains a.settled q && not b)) (in_entries m q))

    -- these leased again, and all but one settled, which is given back
    module _ (alloc : ℕ) where
      rest_in : (q : ℕ) → is_in (map.entries (map.remove m alloc)) q ≡ (not (eq_by_cmp nat_cmp q alloc) && is_in (map.entries m) q)
      rest_in q =
          in_entries (map.remove m alloc) q ∙ ap is_some (map.get-remove nat_cmp_total m alloc q)
          ∙ parted (eq_by_cmp nat_cmp q alloc) (map.get m q)
          ∙ ap (λ b. not (eq_by_cmp nat_cmp q alloc) && b) (sym (in_entries m q))
        where
          parted : (b : Bool) (o : Option Bool) → is_some (cond b None o) ≡ (not b && is_some o)
          parted true o = refl
          parted false o = refl

      settled_rest : Holds (pool_with_all_settled (pool_with_all_leased_again a (numbers_of m)) (numbers_of (map.remove m alloc))) a.first a.last a.limit
          (λ q. not (is_in (map.entries (map.remove m alloc)) q) && (is_in (map.entries m) q || contains a.leased q))
          (λ q. is_in (map.entries (map.remove m alloc)) q || (not (is_in (map.entries m) q) && contains a.settled q))
      settled_rest = holds-settle_all a.first a.last a.limit _ _ (pool_with_all_leased_again a (numbers_of m)) (map.entries (map.remove m alloc)) waked

      out : (e i l : Bool) → l ≡ false → (not e && (not (not e && i) && (i || l))) ≡ false
      out true i l h = refl
      out false true l h = refl
      out false false l h = h

      pub ends-freed : Ends a (pool_without_lease (pool_with_all_settled (pool_with_all_leased_again a (numbers_of m)) (numbers_of (map.remove m alloc))) alloc) (moved (contains a.settled) (has_in m) (has_in (map.remove m alloc)))
      ends-freed =
          ends-by a _ _ _ _ (holds-give_back a.first a.last a.limit _ _ (pool_with_all_settled (pool_with_all_leased_again a (numbers_of m)) (numbers_of (map.remove m alloc))) alloc settled_rest)
          (λ q.
          ap (λ b. not (eq_by_cmp nat_cmp q alloc) && (not b && (is_in (map.entries m) q || contains a.leased q))) (rest_in q)
          ∙ out (eq_by_cmp nat_cmp q alloc) (is_in (map.entries m) q) (contains a.leased q) (idle q))
          (λ q.
          after_put (is_in (map.entries (map.remove m alloc)) q) (is_in (map.entries m) q) (contains a.settled q)
          ∙ ap (λ b. b || (contains a.settled q && not (is_in (map.entries m) q))) (in_entries (map.remove m alloc) q)
          ∙ ap (λ b. has_in (map.remove m alloc) q || (contains a.settled q && not b)) (in_entries m q))

      -- it is still leased before it is given back
      pub freed_leased : has_in m alloc ≡ true → contains (let p : Pool = pool_with_all_settled (pool_with_all_leased_again a (numbers_of m)) (numbers_of (map.remove m alloc)) in p.leased) alloc ≡ true
      freed_leased has =
          settled_rest.are_leased alloc
          ∙ ap (λ b. not b && (is_in (map.entries m) alloc || contains a.leased alloc)) (rest_in alloc ∙ ap (λ b. not b && is_in (map.entries m) alloc) (unsigned_tied alloc alloc ∙ eq-eqb alloc alloc refl))
          ∙ ap (λ b. b || contains a.leased alloc) (in_entries m alloc ∙ has)

  -- one more leased, these leased again, and all settled
  module _ (m : AllocMap) (alloc : ℕ) (leaving : Bool) where
    more_in : (q : ℕ) → is_in (map.entries (map.insert m alloc leaving)) q ≡ (eq_by_cmp nat_cmp q alloc || is_in (map.entries m) q)
    more_in q =
        in_entries (map.insert m alloc leaving) q ∙ ap is_some (map.get-insert nat_cmp_total m alloc leaving q)
        ∙ parted (eq_by_cmp nat_cmp q alloc) (map.get m q)
        ∙ ap (λ b. eq_by_cmp nat_cmp q alloc || b) (sym (in_entries m q))
      where
        parted : (b : Bool) (o : Option Bool) → is_some (cond b (Some leaving) o) ≡ (b || is_some o)
        parted true o = refl
        parted false o = refl

    leased_more : Holds (pool_with_all_leased_again (pool_with_lease a alloc) (numbers_of m)) a.first a.last a.limit
        (λ q. is_in (map.entries m) q || (eq_by_cmp nat_cmp q alloc || contains a.leased q)) (λ q. not (is_in (map.entries m) q) && contains a.settled q)
    leased_more = holds-lease_all a.first a.last a.limit _ _ (pool_with_lease a alloc) (map.entries m) (holds-lease a.first a.last a.limit (contains a.leased) (contains a.settled) a alloc (plain a))

    out_more : (e i l : Bool) → l ≡ false → (not (e || i) && (i || (e || l))) ≡ false
    out_more true i l h = refl
    out_more false true l h = refl
    out_more false false l h = h

    pub ends-more : Ends a (pool_with_all_settled (pool_with_all_leased_again (pool_with_lease a alloc) (numbers_of m)) (numbers_of (map.insert m alloc leaving))) (moved (contains a.settled) (has_in m) (has_in (map.insert m alloc leaving)))
    ends-more =
        ends-by a _ _ _ _ (holds-settle_all a.first a.last a.limit _ _ (pool_with_all_leased_again (pool_with_lease a alloc) (numbers_of m)) (map.entries (map.insert m alloc leaving)) leased_more)
        (λ q.
        ap (λ b. not b && (is_in (map.entries m) q || (eq_by_cmp nat_cmp q alloc || contains a.leased q))) (more_in q)
        ∙ out_more (eq_by_cmp nat_cmp q alloc) (is_in (map.entries m) q) (contains a.leased q) (idle q))
        (λ q.
        after_put (is_in (map.entries (map.insert m alloc leaving)) q) (is_in (map.entries m) q) (contains a.settled q)
        ∙ ap (λ b. b || (contains a.settled q && not (is_in (map.entries m) q))) (in_entries (map.insert m alloc leaving) q)
        ∙ ap (λ b. has_in (map.insert m alloc leaving) q || (contains a.settled q && not b)) (in_entries m q))

    -- all of them are leased before they are settled
    pub more_leased : AreLeased (pool_with_all_leased_again (pool_with_lease a alloc) (numbers_of m)) (map.insert m alloc leaving)
    more_leased q has =
        leased_more.are_leased q
        ∙ either (is_in (map.entries m) q) (eq_by_cmp nat_cmp q alloc) (contains a.leased q) (sym (more_in q) ∙ in_entries (map.insert m alloc leaving) q ∙ has)
      where
        either : (i e l : Bool) → (e || i) ≡ true → (i || (e || l)) ≡ true
        either true e l h = refl
        either false true l h = refl
        either false false l h = absurd (false≢true h)

-- the one that was given is new
pub fresh_more : (a : Pool) (m : AllocMap) (alloc : ℕ) (leaving : Bool) → (contains a.settled alloc ≡ true → ⊥) → (q : ℕ) → has_in (map.insert m alloc leaving) q ≡ true → contains a.settled q ≡ true → has_in m q ≡ true
fresh_more a m alloc leaving free q own is = elim (cases_eq q alloc) [
  | inl same ↦ absurd (free (ap (contains a.settled) (sym same) ∙ is))
  | inr other ↦
      sym (ap is_some (map.get-insert nat_cmp_total m alloc leaving q ∙ ap (λ b. cond b (Some leaving) (map.get m q)) (unsigned_tied q alloc ∙ ne_eqb q alloc other))) ∙ own
]

-- ---- an Acknowledge

no_lease : (n : ℕ) → ◌≡◌ {A = Option ℕ} None (Some n) → ⊥
no_lease n e = cc

same_lease : (a b : ℕ) → ◌≡◌ {A = Option ℕ} (Some a) (Some b) → a ≡ b
same_lease a b e = cc

-- what is left are some of them
pub left_some : (m : AllocMap) (alloc : ℕ) (state : Option Bool) (q : ℕ) → has_in (allocs_left m alloc state) q ≡ true → has_in m q ≡ true
left_some m alloc None q has = has
left_some m alloc (Some false) q has = has
left_some m alloc (Some true) q has = by_test (eq_by_cmp nat_cmp q alloc) (map.get m q) (sym (ap is_some (map.get-remove nat_cmp_total m alloc q)) ∙ has)
  where
    by_test : (b : Bool) (o : Option Bool) → is_some (cond b None o) ≡ true → is_some o ≡ true
    by_test true o e = absurd (false≢true e)
    by_test false o e = e

module _ (a : Pool) (idle : (q : ℕ) → contains a.leased q ≡ false) (m : AllocMap) (alloc : ℕ) where
  -- what was freed is leased before it is given back
  pub acked_leased : (state : Option Bool) (lease : ℕ) → map.get m alloc ≡ state → freed_alloc alloc state ≡ Some lease
      → contains (let p : Pool = pool_with_all_settled (pool_with_all_leased_again a (numbers_of m)) (numbers_of (allocs_left m alloc state)) in p.leased) lease ≡ true
  acked_leased None lease is freed = absurd (no_lease lease freed)
  acked_leased (Some false) lease is freed = absurd (no_lease lease freed)
  acked_leased (Some true) lease is freed =
      ap (contains (let p : Pool = pool_with_all_settled (pool_with_all_leased_again a (numbers_of m)) (numbers_of (map.remove m alloc)) in p.leased)) (sym (same_lease alloc lease freed))
      ∙ freed_leased a idle m alloc (ap is_some is)

  pub ends-acked : (state : Option Bool) → map.get m alloc ≡ state
      → Ends a (pool_freed (pool_with_all_settled (pool_with_all_leased_again a (numbers_of m)) (numbers_of (allocs_left m alloc state))) (freed_alloc alloc state)) (moved (contains a.settled) (has_in m) (has_in (allocs_left m alloc state)))
  ends-acked None is = ends-waked a idle m
  ends-acked (Some false) is = ends-waked a idle m
  ends-acked (Some true) is = ends-freed a idle m alloc
