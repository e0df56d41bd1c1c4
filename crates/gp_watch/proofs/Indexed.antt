-- The index by serial number keeps step with the holders.
use Rattle.std.proofs.Common.{◌≡◌, ℕ, ◌≤◌, ◌==◌, true, false, cond, not, Option, None, Some, inl, inr, refl, sym, ap, subst, ◌∙◌, eq-eqb}
use Rattle.std.specs.Ordering.{nat_cmp}
use Rattle.std.specs.Cmp.{nat_cmp_total}
use Rattle.std.specs.FinMap.{FinMap, get, insert, retain_keys, empty, get-empty, same_map, nat_cmp-IsAntisymmetric}
use Rattle.std.proofs.lemmas.Bool.{cases_Bool, cases_eq, false≢true, ne_eqb}
use Rattle.gp_ploam.specs.declared.message.Serial.{Serial}
use Rattle.gp_ploam.specs.Serials.{same_serial}
use Rattle.gp_ploam.proofs.Serials.{same_serial-true, same_serial-itself}
use Rattle.gp_observer.specs.Observer.{some_passes}
use Rattle.gp_observer.proofs.Listed.{not_none, one_value, put_same, put_other, dropped_at}
use Rattle.gp_watch.specs.Kept.{IsIndexed}

pub indexed-empty : (key : Serial → Option ℕ) → ((s : Serial) → key s ≡ None) → IsIndexed empty key
indexed-empty key none =
    record {
      each = λ n s. (λ e. absurd (not_none s (sym (get-empty nat_cmp n) ∙ e)), λ e. absurd (not_none n (sym (none s) ∙ e)));
      low = λ n s e. absurd (not_none s (sym (get-empty nat_cmp n) ∙ e));
    }

module _ (holder : FinMap nat_cmp Serial) (key : Serial → Option ℕ) (is : IsIndexed holder key) where
  pub same_keys : (new : Serial → Option ℕ) → ((s : Serial) → new s ≡ key s) → IsIndexed holder new
  same_keys new same = record { each = λ n s. (λ e. same s ∙ (is.each n s).0 e, λ e. (is.each n s).1 (sym (same s) ∙ e)); low = is.low }

  abbrev left : ℕ → FinMap nat_cmp Serial
  left n = retain_keys holder (λ m. not (m == n))

  left_same : (n : ℕ) → get (left n) n ≡ None
  left_same n = dropped_at holder (λ m. m == n) n ∙ ap (λ b. cond b None (get holder n)) (eq-eqb n n refl)

  left_other : (n m : ℕ) → (m ≡ n → ⊥) → get (left n) m ≡ get holder m
  left_other n m other = dropped_at holder (λ m. m == n) m ∙ ap (λ b. cond b None (get holder m)) (ne_eqb m n other)

  -- an ONU-ID that nobody holds is given up
  left_nobody : (n : ℕ) → get holder n ≡ None → left n ≡ holder
  left_nobody n none =
      same_map nat_cmp_total nat_cmp-IsAntisymmetric _ _ (λ q.
      elim (cases_eq q n) [
        | inl same ↦ ap (get (left n)) same ∙ left_same n ∙ sym none ∙ ap (get holder) (sym same)
        | inr other ↦ left_other n q other
      ])

  pub indexed-nobody : (n : ℕ) → get holder n ≡ None → IsIndexed (left n) key
  indexed-nobody n none = subst (λ (h : FinMap nat_cmp Serial). IsIndexed h key) (sym (left_nobody n none)) is

  -- an ONU-ID is given up
  pub indexed-remove : (n : ℕ) (s : Serial) → get holder n ≡ Some s → (new : Serial → Option ℕ) → ((t : Serial) → new t ≡ cond (same_serial t s) None (key t)) → IsIndexed (left n) new
  indexed-remove n s has new each_new =
      record {
        each = λ m t. (
          λ e. elim (cases_eq m n) [
            | inl same ↦ absurd (not_none t (sym (left_same n) ∙ ap (λ j. get (left n) j) (sym same) ∙ e))
            | inr other ↦
                let was : get holder m ≡ Some t = sym (left_other n m other) ∙ e in
                new_other t (differs m t was other) ∙ (is.each m t).0 was
          ],
          λ e. elim (cases_Bool (same_serial t s)) [
            | inl same ↦ absurd (not_none m (sym (each_new t ∙ ap (λ b. cond b None (key t)) same) ∙ e))
            | inr other ↦
                let was : get holder m ≡ Some t = (is.each m t).1 (sym (new_other t other) ∙ e) in
                left_other n m (λ same. false≢true (sym other ∙ ap (λ (x : Serial). same_serial x s) (one_value t s (sym was ∙ ap (get holder) same ∙ has)) ∙ same_serial-itself s)) ∙ was
          ],
        );
        low = λ m t e. elim (cases_eq m n) [
          | inl same ↦ absurd (not_none t (sym (left_same n) ∙ ap (λ j. get (left n) j) (sym same) ∙ e))
          | inr other ↦ is.low m t (sym (left_other n m other) ∙ e)
        ];
      }
    where
      new_other : (t : Serial) → same_serial t s ≡ false → new t ≡ key t
      new_other t other = each_new t ∙ ap (λ b. cond b None (key t)) other

      differs : (m : ℕ) (t : Serial) → get holder m ≡ Some t → (m ≡ n → ⊥) → same_serial t s ≡ false
      differs m t k other =
          elim (cases_Bool (same_serial t s)) [
            | inl same ↦ absurd (other (one_value m n (sym ((is.each m t).0 k) ∙ ap key (same_serial-true t s same) ∙ (is.each n s).0 has)))
            | inr b ↦ b
          ]

  -- an ONU-ID that nobody holds is assigned to a serial number that holds none
  pub indexed-assign : (n : ℕ) (s : Serial) → n ≤ 253 → get holder n ≡ None → key s ≡ None → (new : Serial → Option ℕ) → ((t : Serial) → new t ≡ cond (same_serial t s) (Some n) (key t)) → IsIndexed (insert holder n s) new
  indexed-assign n s low nobodys none new each_new =
      record {
        each = λ m t. (
          λ e. elim (cases_eq m n) [
            | inl same ↦
                let who : s ≡ t = one_value s t (sym (put_same holder n s) ∙ ap (λ j. get (insert holder n s) j) (sym same) ∙ e) in
                ap new (sym who) ∙ new_same s (same_serial-itself s) ∙ ap Some (sym same)
            | inr other ↦
                let was : get holder m ≡ Some t = sym (put_other holder n s m other) ∙ e in
                elim (cases_Bool (same_serial t s)) [
                  | inl is_s ↦ absurd (not_none m (sym none ∙ ap key (sym (same_serial-true t s is_s)) ∙ (is.each m t).0 was))
                  | inr b ↦ new_other t b ∙ (is.each m t).0 was
                ]
          ],
          λ e. elim (cases_Bool (same_serial t s)) [
            | inl is_s ↦
                let same : n ≡ m = one_value n m (sym (new_same t is_s) ∙ e) in
                ap (λ j. get (insert holder n s) j) (sym same) ∙ put_same holder n s ∙ ap Some (sym (same_serial-true t s is_s))
            | inr b ↦
                let was : get holder m ≡ Some t = (is.each m t).1 (sym (new_other t b) ∙ e) in
                put_other holder n s m (λ same. not_none t (sym nobodys ∙ ap (get holder) (sym same) ∙ was)) ∙ was
          ],
        );
        low = λ m t e. elim (cases_eq m n) [
          | inl same ↦ subst (λ k. k ≤ 253) (sym same) low
          | inr other ↦ is.low m t (sym (put_other holder n s m other) ∙ e)
        ];
      }
    where
      new_same : (t : Serial) → same_serial t s ≡ true → new t ≡ Some n
      new_same t same = each_new t ∙ ap (λ b. cond b (Some n) (key t)) same

      new_other : (t : Serial) → same_serial t s ≡ false → new t ≡ key t
      new_other t other = each_new t ∙ ap (λ b. cond b (Some n) (key t)) other

  -- whom a serial number's ONU-ID belongs to
  pub passes_at : (s : Serial) (n : ℕ) → key s ≡ Some n → (m : ℕ) → some_passes (λ t. same_serial s t) (get holder m) ≡ (m == n)
  passes_at s n has m = by_holder (get holder m) refl
    where
      by_holder : (o : Option Serial) → get holder m ≡ o → some_passes (λ t. same_serial s t) o ≡ (m == n)
      by_holder None e = sym (ne_eqb m n (λ same. not_none s (sym e ∙ ap (get holder) same ∙ (is.each n s).1 has)))
      by_holder (Some t) e =
          elim (cases_Bool (same_serial s t)) [
            | inl b ↦ b ∙ sym (eq-eqb m n (one_value m n (sym ((is.each m t).0 e) ∙ ap key (sym (same_serial-true s t b)) ∙ has)))
            | inr b ↦ b ∙ sym (ne_eqb m n (λ same. false≢true (sym b ∙ ap (λ (x : Serial). same_serial x t) (one_value s t (sym ((is.each n s).1 has) ∙ ap (get holder) (sym same) ∙ e)) ∙ same_serial-itself t)))
          ]

  pub passes_none : (s : Serial) → key s ≡ None → (m : ℕ) → some_passes (λ t. same_serial s t) (get holder m) ≡ false
  passes_none s none m = by_holder (get holder m) refl
    where
      by_holder : (o : Option Serial) → get holder m ≡ o → some_passes (λ t. same_serial s t) o ≡ false
      by_holder None e = refl
      by_holder (Some t) e =
          elim (cases_Bool (same_serial s t)) [
            | inl b ↦ absurd (not_none m (sym none ∙ ap key (same_serial-true s t b) ∙ (is.each m t).0 e))
            | inr b ↦ b
          ]

  -- who holds none by the holders holds none by the index
  pub key_none : (s : Serial) → ((m : ℕ) → some_passes (λ t. same_serial s t) (get holder m) ≡ false) → key s ≡ None
  key_none s none = by_key (key s) refl
    where
      by_key : (o : Option ℕ) → key s ≡ o → key s ≡ None
      by_key None e = e
      by_key (Some n) e = absurd (false≢true (sym (none n) ∙ passes_at s n e n ∙ eq-eqb n n refl))
