-- Sets and maps of numbers, after a number was put or taken out; what is kept of an option.
use Rattle.std.proofs.Common.{◌≡◌, ℕ, zero, suc, ◌==◌, ◌⊎◌, inl, inr, nat_lt, arith, Bool, true, false, cond, not, ◌&&◌, ◌||◌, Option, None, Some, refl, sym, ap, ◌∙◌, eq-eqb, ◌↔◌}
use Rattle.std.specs.Ordering.{nat_cmp}
use Rattle.std.specs.Cmp.{nat_cmp_total, unsigned_tied}
use Rattle.std.specs.FinSet.{FinSet, contains, insert, remove, retain, contains-insert, contains-remove, contains-retain, contains-empty, nat_cmp-IsAntisymmetric}
use Rattle.std.proofs.lemmas.Bool.{cases_Bool, cases_eq, ne_eqb, ltb-true, ltb-false, lt-ltb, le-ltb}
use Rattle.gp_observer.specs.Observer.{some_passes}
use Rattle.gp_observer.specs.Watch.{numbers_below}

module _ (u : FinSet nat_cmp) (k : ℕ) where
  pub in_put_same : contains (insert u k) k ≡ true
  in_put_same = contains-insert nat_cmp_total u k k ∙ ap (λ b. b || contains u k) (unsigned_tied k k ∙ eq-eqb k k refl)

  pub in_put_other : (n : ℕ) → (n ≡ k → ⊥) → contains (insert u k) n ≡ contains u n
  in_put_other n other = contains-insert nat_cmp_total u k n ∙ ap (λ b. b || contains u n) (unsigned_tied n k ∙ ne_eqb n k other)

  pub in_removed_same : contains (remove u k) k ≡ false
  in_removed_same = contains-remove nat_cmp_total u k k ∙ ap (λ b. not b && contains u k) (unsigned_tied k k ∙ eq-eqb k k refl)

  pub in_removed_other : (n : ℕ) → (n ≡ k → ⊥) → contains (remove u k) n ≡ contains u n
  in_removed_other n other = contains-remove nat_cmp_total u k n ∙ ap (λ b. not b && contains u n) (unsigned_tied n k ∙ ne_eqb n k other)

-- what is not dropped of a set
pub kept_in : (u : FinSet nat_cmp) (gone : ℕ → Bool) (n : ℕ) → contains (retain u (λ x. not (gone x))) n ≡ (contains u n && not (gone n))
kept_in u gone n = contains-retain u (λ x. not (gone x)) n (λ x e. ap (λ y. not (gone y)) (sym (nat_cmp-IsAntisymmetric n x e)))

module _ {X : Type 0} where
  none_some : (x : X) → ◌≡◌ {A = Option X} None (Some x) → ⊥
  none_some x h = cc

  pub none_either : (b : Bool) → ◌≡◌ {A = Option X} (cond b None None) None
  none_either true = refl
  none_either false = refl

  -- what is left was there
  pub was_there : (b : Bool) (o : Option X) (x : X) → cond b None o ≡ Some x → (o ≡ Some x) × (b ≡ false)
  was_there true o x h = absurd (none_some x h)
  was_there false o x h = (h, refl)

  pub still_there : (b : Bool) (o : Option X) (x : X) → o ≡ Some x → b ≡ false → cond b None o ≡ Some x
  still_there b o x h none = ap (λ c. cond c None o) none ∙ h

-- a number whose own test drops it, or keeps it
pub kept_number : (test : ℕ → Bool) (o : Option ℕ) (n : ℕ) → (cond (some_passes test o) None o ≡ Some n) ↔ ((o ≡ Some n) × (test n ≡ false))
kept_number test None n = (λ h. absurd (none_some n h), λ h. absurd (none_some n h.0))
kept_number test (Some m) n = (forth, λ h. still_there (test m) (Some m) n h.0 (ap test (one h.0) ∙ h.1))
  where
    one : Some m ≡ Some n → m ≡ n
    one h = cc

    forth : cond (test m) None (Some m) ≡ Some n → (Some m ≡ Some n) × (test n ≡ false)
    forth h = let kept = was_there (test m) (Some m) n h in (kept.0, sym (ap test (one kept.0)) ∙ kept.1)

-- the numbers below a number
pub in_below : (count n : ℕ) → contains (numbers_below count) n ≡ nat_lt n count
unfolding numbers_below
in_below zero n = contains-empty nat_cmp n ∙ sym (le-ltb n 0 (omega arith))
in_below (suc count) n = contains-insert nat_cmp_total (numbers_below count) count n ∙ ap (λ b. b || contains (numbers_below count) n) (unsigned_tied n count) ∙ ap (λ b. n == count || b) (in_below count n) ∙ by_case (cases_eq n count)
  where
    by_case : (n ≡ count) ⊎ (n ≡ count → ⊥) → (n == count || nat_lt n count) ≡ nat_lt n (suc count)
    by_case (inl same) = ap (λ b. b || nat_lt n count) (eq-eqb n count same) ∙ sym (lt-ltb n (suc count) (omega (arith, same)))
    by_case (inr other) =
        ap (λ b. b || nat_lt n count) (ne_eqb n count other)
        ∙ elim (cases_Bool (nat_lt n count)) [
          | inl b ↦ let below = ltb-true n count b in b ∙ sym (lt-ltb n (suc count) (omega arith))
          | inr b ↦ let above = ltb-false n count b in b ∙ sym (le-ltb n (suc count) (omega (arith, other)))
        ]
