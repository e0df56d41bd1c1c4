-- Sets and maps of numbers, where ONU-IDs are dropped.
use Rattle.std.proofs.Common.{◌≡◌, ℕ, suc, ◌+◌, arith, ◌==◌, Bool, true, false, cond, not, ◌&&◌, ◌||◌, Option, None, Some, inl, inr, refl, sym, ap, ◌∙◌, eq-eqb}
use Rattle.std.specs.Ordering.{nat_cmp}
use Rattle.std.specs.Cmp.{nat_cmp_total}
use Rattle.std.specs.FinMap.{FinMap, get, retain_keys, same_map, nat_cmp-IsAntisymmetric}
use Rattle.std.specs.FinMap as map
use Rattle.std.specs.FinSet.{FinSet, contains, remove, retain, contains-empty, same_set}
use Rattle.std.specs.FinSet as finset
use Rattle.std.proofs.lemmas.Bool.{cases_eq, ne_eqb}
use Rattle.gp_observer.specs.Watch.{numbers_below}
use Rattle.gp_observer.proofs.Listed.{dropped_at}
use Rattle.gp_observer.proofs.Numbers.{in_removed_same, in_removed_other, kept_in}

pub same_numbers : (a b : FinSet nat_cmp) → ((n : ℕ) → contains a n ≡ contains b n) → a ≡ b
same_numbers a b h = same_set nat_cmp_total nat_cmp-IsAntisymmetric a b h

and_false : (b : Bool) → (b && false) ≡ false
and_false true = refl
and_false false = refl

and_true : (b : Bool) → (b && true) ≡ b
and_true true = refl
and_true false = refl

-- one number is taken out
pub removed_is_kept : (u : FinSet nat_cmp) (k : ℕ) → remove u k ≡ retain u (λ n. not (n == k))
removed_is_kept u k =
    same_numbers _ _ (λ n.
    elim (cases_eq n k) [
      | inl same ↦
          ap (contains (remove u k)) same ∙ in_removed_same u k ∙ sym (and_false (contains u n))
          ∙ ap (λ b. contains u n && not b) (sym (eq-eqb n k same)) ∙ sym (kept_in u (λ x. x == k) n)
      | inr other ↦
          in_removed_other u k n other ∙ sym (and_true (contains u n))
          ∙ ap (λ b. contains u n && not b) (sym (ne_eqb n k other)) ∙ sym (kept_in u (λ x. x == k) n)
    ])

twice : {A : Type 0} (a b : Bool) (x y : A) → cond b x (cond a x y) ≡ cond (a || b) x y
twice true true x y = refl
twice true false x y = refl
twice false b x y = refl

not_or : (a b c : Bool) → ((c && not a) && not b) ≡ (c && not (a || b))
not_or true true true = refl
not_or true false true = refl
not_or false b true = refl
not_or a b false = refl

module _ {X : Type 0} (m : FinMap nat_cmp X) where
  same : (a b : FinMap nat_cmp X) → ((q : ℕ) → get a q ≡ get b q) → a ≡ b
  same a b is = same_map nat_cmp_total nat_cmp-IsAntisymmetric a b is

  -- those that are dropped one after the other
  pub dropped_twice : (p q : ℕ → Bool) → retain_keys (retain_keys m (λ n. not (p n))) (λ n. not (q n)) ≡ retain_keys m (λ n. not (p n || q n))
  dropped_twice p q =
      same _ _ (λ n.
      dropped_at (retain_keys m (λ x. not (p x))) q n ∙ ap (cond (q n) None) (dropped_at m p n) ∙ twice (p n) (q n) None (get m n)
      ∙ sym (dropped_at m (λ x. p x || q x) n))

  -- none is dropped
  pub dropped_none : (p : ℕ → Bool) → ((n : ℕ) → p n ≡ false) → retain_keys m (λ n. not (p n)) ≡ m
  dropped_none p none = same _ _ (λ n. dropped_at m p n ∙ ap (λ b. cond b None (get m n)) (none n))

  -- all are
  pub dropped_all : (p : ℕ → Bool) → ((n : ℕ) (x : X) → get m n ≡ Some x → p n ≡ true) → retain_keys m (λ n. not (p n)) ≡ map.empty
  dropped_all p all = same _ _ (λ n. dropped_at m p n ∙ by_value n (get m n) refl ∙ sym (map.get-empty nat_cmp n))
    where
      none : (b : Bool) → ◌≡◌ {A = Option X} (cond b None None) None
      none true = refl
      none false = refl

      by_value : (n : ℕ) (o : Option X) → get m n ≡ o → cond (p n) None o ≡ None
      by_value n None e = none (p n)
      by_value n (Some x) e = ap (λ b. cond b None (Some x)) (all n x e)

pub kept_twice : (u : FinSet nat_cmp) (p q : ℕ → Bool) → retain (retain u (λ n. not (p n))) (λ n. not (q n)) ≡ retain u (λ n. not (p n || q n))
kept_twice u p q =
    same_numbers _ _ (λ n.
    kept_in (retain u (λ x. not (p x))) q n ∙ ap (λ b. b && not (q n)) (kept_in u p n) ∙ not_or (p n) (q n) (contains u n)
    ∙ sym (kept_in u (λ x. p x || q x) n))

pub kept_all : (u : FinSet nat_cmp) (p : ℕ → Bool) → ((n : ℕ) → p n ≡ false) → retain u (λ n. not (p n)) ≡ u
kept_all u p none = same_numbers _ _ (λ n. kept_in u p n ∙ ap (λ b. contains u n && not b) (none n) ∙ and_true (contains u n))

pub kept_none : (u : FinSet nat_cmp) (p : ℕ → Bool) → ((n : ℕ) → p n ≡ true) → retain u (λ n. not (p n)) ≡ finset.empty
kept_none u p all = same_numbers _ _ (λ n. kept_in u p n ∙ ap (λ b. contains u n && not b) (all n) ∙ and_false (contains u n) ∙ sym (contains-empty nat_cmp n))

-- one number more below
pub below_next : (k : ℕ) → finset.insert (numbers_below k) k ≡ numbers_below (k + 1)
unfolding numbers_below
below_next k = ap numbers_below (next k)
  where
    next : (n : ℕ) → suc n ≡ n + 1
    next n = omega arith

pub below_none : finset.empty ≡ numbers_below 0
unfolding numbers_below
below_none = refl
