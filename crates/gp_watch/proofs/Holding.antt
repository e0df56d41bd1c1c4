-- Which ONU-ID a serial number holds, of all that there are.
use Rattle.std.proofs.Common.{◌≡◌, ℕ, zero, suc, ◌+◌, ◌<◌, ◌≤◌, ◌==◌, ◌&&◌, ◌||◌, Bool, true, false, Option, None, Some, is_some, inl, inr, refl, sym, ap, ◌∙◌, arith, eq-eqb}
use Rattle.std.proofs.lemmas.Bool.{cases_Bool, cases_eq, ne_eqb}
use Rattle.std.proofs.lemmas.Bool.Decides.{nat_tests}
use Rattle.gp_ploam.specs.declared.message.Serial.{Serial}
use Rattle.gp_machine.specs.State.{some_number}
use Rattle.gp_observer.specs.Observer.{some_passes, is_of}
use Rattle.gp_observer.specs.Watch.{Watch}
use Rattle.gp_observer.specs.Rules.{holds_one}
use Rattle.gp_watch.specs.Changes.{IsOnuOf, first_passing, onu_held}

and_false : (b : Bool) → (b && false) ≡ false
and_false true = refl
and_false false = refl

and_true : (b : Bool) → (b && true) ≡ b
and_true true = refl
and_true false = refl

or_false : (b : Bool) → (b || false) ≡ b
or_false true = refl
or_false false = refl

module _ (test of : ℕ → Bool) where
  -- none of these numbers is the serial number's
  no_number : (first count : ℕ) → ((k : ℕ) → first ≤ k → of k ≡ false) → some_number first count (λ k. test k && of k) ≡ false
  unfolding some_number
  no_number first zero none = refl
  no_number first (suc count) none =
      ap (λ b. (test first && b) || some_number (suc first) count (λ k. test k && of k)) (none first (omega arith))
      ∙ ap (λ b. b || some_number (suc first) count (λ k. test k && of k)) (and_false (test first))
      ∙ no_number (suc first) count (λ k past. none k (omega arith))

  -- one is
  number_at : (n : ℕ) → ((k : ℕ) → of k ≡ (k == n)) → (first count : ℕ) → first ≤ n → n < first + count → some_number first count (λ k. test k && of k) ≡ test n
  unfolding some_number
  number_at n is first zero low high = absurd (omega arith)
  number_at n is first (suc count) low high =
      elim (cases_eq first n) [
        | inl same ↦
            ap (λ b. (test first && b) || some_number (suc first) count (λ k. test k && of k)) (is first ∙ eq-eqb first n same)
            ∙ ap (λ b. b || some_number (suc first) count (λ k. test k && of k)) (and_true (test first))
            ∙ ap (λ b. test first || b) (no_number (suc first) count (λ k past. is k ∙ ne_eqb k n (λ e. omega arith)))
            ∙ or_false (test first) ∙ ap test same
        | inr other ↦
            ap (λ b. (test first && b) || some_number (suc first) count (λ k. test k && of k)) (is first ∙ ne_eqb first n other)
            ∙ ap (λ b. b || some_number (suc first) count (λ k. test k && of k)) (and_false (test first))
            ∙ number_at n is (suc first) count (omega (arith, other)) (omega arith)
      ]

-- what is asked of the ONU-ID that a serial number holds
pub holds_one_is : (w : Watch) (s : Serial) (test : ℕ → Bool) (o : Option ℕ) → IsOnuOf w s o → some_passes test o ≡ holds_one w s test
holds_one_is w s test None none = sym (no_number test (is_of w.seen s) 0 254 (λ k past. none k))
holds_one_is w s test (Some n) is = sym (number_at test (is_of w.seen s) n is.1 0 254 (omega arith) (let low = is.0 in omega arith))

pub some_is : (o : Option ℕ) → is_some o ≡ some_passes (λ k. true) o
some_is None = refl
some_is (Some n) = refl

-- one number alone passes
first_is : (test : ℕ → Bool) (one number count : ℕ) → ((other : ℕ) → test other ≡ (other == one)) → number ≤ one → one < number + count
    → first_passing number count test ≡ Some one
first_is test one number zero same low high = absurd (omega arith)
first_is test one number (suc count) same low high =
    elim (cases_Bool (number == one)) [
      | inl is ↦ let here : number ≡ one = grind (arith, nat_tests, is) in rw (same number ∙ is) (ap Some here)
      | inr other ↦
          let apart : suc number ≤ one = grind (arith, nat_tests, other) in
          rw (same number ∙ other) (first_is test one (suc number) count same apart (omega arith))
    ]

-- none passes
first_none : (test : ℕ → Bool) (number count : ℕ) → ((other : ℕ) → test other ≡ false) → first_passing number count test ≡ None
first_none test number zero none = refl
first_none test number (suc count) none = rw (none number) (first_none test (suc number) count none)

-- it is the first of all numbers that are the serial number's
pub held_is : (w : Watch) (s : Serial) (o : Option ℕ) → IsOnuOf w s o → o ≡ onu_held w s
unfolding onu_held
held_is w s None none = sym (first_none (is_of w.seen s) 0 254 none)
held_is w s (Some n) is = sym (first_is (is_of w.seen s) n 0 254 is.1 (omega arith) (let low = is.0 in omega (arith, low)))
