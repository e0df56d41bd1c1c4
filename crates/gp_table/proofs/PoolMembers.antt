-- Which numbers of a pool are leased and which are settled, after calls that lease, settle or give back several.
use Rattle.std.proofs.Common.{◌≡◌, ℕ, Bool, true, false, not, ◌||◌, ◌&&◌, List, [], ◌∷◌, Option, None, Some, refl, sym, ap, ◌∙◌, is_some, inl, inr}
use Rattle.std.proofs.lemmas.Bool.{cases_eq}
use Rattle.std.specs.List.{list_any}
use Rattle.std.specs.Ordering.{nat_cmp, eq_by_cmp}
use Rattle.std.specs.Cmp.{nat_cmp_total}
use Rattle.std.specs.FinMap as map
use Rattle.std.specs.FinSet.{FinSet, contains, insert, remove, union, difference, from_list, contains-insert, contains-remove, contains-union, contains-difference, contains-from_list}
use Rattle.gp_numbers.proofs.Members.{contains-insert_other, contains-remove_same, contains-remove_other, insert-remove, same_members}
use Rattle.gp_pools.specs.Allocs.{AllocMap}
use Rattle.gp_pools.specs.Onu.{OnuPool, onus_with_lease, onus_with_lease_again, onus_with_settled, onus_without_lease}
use Rattle.gp_pools.specs.Cooling.{quarantine_with}
use Rattle.gp_pools.specs.Pool.{Pool, pool_with_all_leased_again, pool_with_all_settled, pool_with_lease, pool_without_all, pool_without_lease}

abbrev pub Entries : Type 0
Entries = List (ℕ × Bool)

-- the number stands in the list
abbrev pub is_in : Entries → ℕ → Bool
is_in es number = list_any (eq_by_cmp nat_cmp number) (Rattle.std.proofs.Common.map (λ e. e.0) es)

-- the entries of a map have its numbers
pub in_entries : (allocs : AllocMap) (number : ℕ) → is_in (map.entries allocs) number ≡ is_some (map.get allocs number)
in_entries allocs number = sym (map.contains_key-keys allocs number)

-- just these are leased, and just these settled; the range is as it was
pub record Holds (pool : Pool) (first last limit : ℕ) (leased settled : ℕ → Bool) : Type 0 where
  pub same_first : pool.first ≡ first
  pub same_last : pool.last ≡ last
  pub same_limit : pool.limit ≡ limit
  pub are_leased : (number : ℕ) → contains pool.leased number ≡ leased number
  pub are_settled : (number : ℕ) → contains pool.settled number ≡ settled number

abbrev pub plain : (pool : Pool) → Holds pool pool.first pool.last pool.limit (contains pool.leased) (contains pool.settled)
plain pool = record { same_first = refl; same_last = refl; same_limit = refl; are_leased = λ n. refl; are_settled = λ n. refl }

module _ (first last limit : ℕ) (leased settled : ℕ → Bool) where
  pub holds-lease : (pool : Pool) (n : ℕ) → Holds pool first last limit leased settled → Holds (pool_with_lease pool n) first last limit (λ q. eq_by_cmp nat_cmp q n || leased q) settled
  holds-lease pool n h = record {
    same_first = h.same_first;
    same_last = h.same_last;
    same_limit = h.same_limit;
    are_leased = λ q. contains-insert nat_cmp_total pool.leased n q ∙ ap (λ b. eq_by_cmp nat_cmp q n || b) (h.are_leased q);
    are_settled = h.are_settled;
  }

  pub holds-give_back : (pool : Pool) (n : ℕ) → Holds pool first last limit leased settled → Holds (pool_without_lease pool n) first last limit (λ q. not (eq_by_cmp nat_cmp q n) && leased q) settled
  holds-give_back pool n h = record {
    same_first = h.same_first;
    same_last = h.same_last;
    same_limit = h.same_limit;
    are_leased = λ q. contains-remove nat_cmp_total pool.leased n q ∙ ap (λ b. not (eq_by_cmp nat_cmp q n) && b) (h.are_leased q);
    are_settled = h.are_settled;
  }

-- ---- all of some entries

leaves : (a b : Bool) → (a && not b) ≡ (not b && a)
leaves true true = refl
leaves true false = refl
leaves false true = refl
leaves false false = refl

joins : (a b : Bool) → (a || b) ≡ (b || a)
joins true true = refl
joins true false = refl
joins false true = refl
joins false false = refl

-- the numbers of entries
abbrev numbers : Entries → FinSet nat_cmp
numbers es = from_list (Rattle.std.proofs.Common.map (λ e. e.0) es)

contains-joined : (s : FinSet nat_cmp) (es : Entries) (q : ℕ) → contains (union s (numbers es)) q ≡ (is_in es q || contains s q)
contains-joined s es q =
    contains-union nat_cmp_total s (numbers es) q ∙ ap (λ b. contains s q || b) (contains-from_list nat_cmp_total _ q) ∙ joins (contains s q) (is_in es q)

contains-left : (s : FinSet nat_cmp) (es : Entries) (q : ℕ) → contains (difference s (numbers es)) q ≡ (not (is_in es q) && contains s q)
contains-left s es q =
    contains-difference nat_cmp_total s (numbers es) q ∙ ap (λ b. contains s q && not b) (contains-from_list nat_cmp_total _ q) ∙ leaves (contains s q) (is_in es q)

module _ (first last limit : ℕ) (leased settled : ℕ → Bool) (pool : Pool) (es : Entries) (h : Holds pool first last limit leased settled) where
  pub holds-lease_all : Holds (pool_with_all_leased_again pool (numbers es)) first last limit (λ q. is_in es q || leased q) (λ q. not (is_in es q) && settled q)
  holds-lease_all = record {
    same_first = h.same_first;
    same_last = h.same_last;
    same_limit = h.same_limit;
    are_leased = λ q. contains-joined pool.leased es q ∙ ap (λ b. is_in es q || b) (h.are_leased q);
    are_settled = λ q. contains-left pool.settled es q ∙ ap (λ b. not (is_in es q) && b) (h.are_settled q);
  }

  pub holds-settle_all : Holds (pool_with_all_settled pool (numbers es)) first last limit (λ q. not (is_in es q) && leased q) (λ q. is_in es q || settled q)
  holds-settle_all = record {
    same_first = h.same_first;
    same_last = h.same_last;
    same_limit = h.same_limit;
    are_leased = λ q. contains-left pool.leased es q ∙ ap (λ b. not (is_in es q) && b) (h.are_leased q);
    are_settled = λ q. contains-joined pool.settled es q ∙ ap (λ b. is_in es q || b) (h.are_settled q);
  }

  pub holds-give_back_all : Holds (pool_without_all pool (numbers es)) first last limit (λ q. not (is_in es q) && leased q) settled
  holds-give_back_all = record {
    same_first = h.same_first;
    same_last = h.same_last;
    same_limit = h.same_limit;
    are_leased = λ q. contains-left pool.leased es q ∙ ap (λ b. not (is_in es q) && b) (h.are_leased q);
    are_settled = h.are_settled;
  }

-- ---- one ONU-ID, where nothing is leased

module _ (ids : OnuPool) (n : ℕ) (idle : (q : ℕ) → contains ids.pool.leased q ≡ false) where
  idle_again : remove (insert ids.pool.leased n) n ≡ ids.pool.leased
  idle_again = same_members _ _ (λ q. elim (cases_eq q n) [
    | inl same ↦ ap (contains (remove (insert ids.pool.leased n) n)) same ∙ contains-remove_same (insert ids.pool.leased n) n ∙ sym (idle q)
    | inr other ↦ contains-remove_other (insert ids.pool.leased n) n q other ∙ contains-insert_other ids.pool.leased n q other
  ])

  -- leased and settled
  pub onus-added : onus_with_settled (onus_with_lease ids n) n ≡ record ids { pool = record ids.pool { settled = insert ids.pool.settled n } }
  onus-added = ap (λ (s : FinSet nat_cmp). let p : OnuPool = record ids { pool = record ids.pool { leased = s; settled = insert ids.pool.settled n } } in p) idle_again

  -- leased again and settled
  pub onus-same : contains ids.pool.settled n ≡ true → onus_with_settled (onus_with_lease_again ids n) n ≡ ids
  onus-same has =
      ap (λ (s : FinSet nat_cmp). let p : OnuPool = record ids { pool = record ids.pool { leased = s; settled = insert (remove ids.pool.settled n) n } } in p) idle_again
      ∙ ap (λ (s : FinSet nat_cmp). let p : OnuPool = record ids { pool = record ids.pool { settled = s } } in p) (insert-remove ids.pool.settled n has)

  -- leased again and given back
  pub onus-freed : onus_without_lease (onus_with_lease_again ids n) n ≡ record { pool = record ids.pool { settled = remove ids.pool.settled n }; quarantine = quarantine_with ids.quarantine n }
  onus-freed = ap (λ (s : FinSet nat_cmp). let p : OnuPool = record { pool = record ids.pool { leased = s; settled = remove ids.pool.settled n }; quarantine = quarantine_with ids.quarantine n } in p) idle_again
