-- A list of entries by number in which none stands twice, and what an edit of it does to the map that it makes.
use Rattle.std.proofs.Common.{◌≡◌, ℕ, zero, suc, ◌+◌, ◌<◌, Bool, true, false, cond, List, [], ◌∷◌, length, ◌⊎◌, Option, None, Some, inl, inr, refl, sym, ap, subst, ◌∙◌, get_or, arith, is_some, nat_eq, eq-eqb}
use Rattle.std.proofs.lemmas.Bool.{cases_Bool, false≢true}
use Rattle.std.specs.List.{insert, remove}
use Rattle.std.specs.FinMap as map
use Rattle.std.specs.Ordering.{eq_by_cmp, nat_cmp}
use Rattle.std.specs.Cmp.{nat_cmp_total, unsigned_tied}
use Rattle.std.proofs.lemmas.Bool.{eqb-true}

swapped : {A : Type 0} (a b : Bool) (x y z : A) → (a ≡ true → b ≡ true → ⊥) → cond a x (cond b y z) ≡ cond b y (cond a x z)
swapped true true x y z apart = absurd (apart refl refl)
swapped true false x y z apart = refl
swapped false b x y z apart = refl

same_itself : (k : ℕ) → nat_eq k k ≡ true
same_itself k = eq-eqb k k refl

module _ {X : Type 0} where
  abbrev pub find : ℕ → List (ℕ × X) → Option X
  find s es = map.find nat_cmp s es

  -- no serial number stands twice
  abbrev pub IsApart : List (ℕ × X) → Type 0
  IsApart [] = Unit {0}
  IsApart (e ∷ es) = (find e.0 es ≡ None) × IsApart es

  some_is_not_none : (x : X) → Some x ≡ None → ⊥
  some_is_not_none x e = cc

  find-cons : (q : ℕ) (e : ℕ × X) (es : List (ℕ × X)) → find q (e ∷ es) ≡ cond (nat_eq q e.0) (Some e.1) (find q es)
  find-cons q e es = ap (λ b. cond b (Some e.1) (find q es)) (unsigned_tied q e.0)

  pub find-head : (e : ℕ × X) (es : List (ℕ × X)) → find e.0 (e ∷ es) ≡ Some e.1
  find-head e es = find-cons e.0 e es ∙ ap (λ b. cond b (Some e.1) (find e.0 es)) (same_itself e.0)

  pub find-tail : (q : ℕ) (e : ℕ × X) (es : List (ℕ × X)) → nat_eq q e.0 ≡ false → find q (e ∷ es) ≡ find q es
  find-tail q e es f = find-cons q e es ∙ ap (λ b. cond b (Some e.1) (find q es)) f

  -- a serial number that is not found is not the first, and not among the others
  pub not_head : (s : ℕ) (e : ℕ × X) (es : List (ℕ × X)) → find s (e ∷ es) ≡ None → nat_eq s e.0 ≡ false
  not_head s e es h =
      elim (cases_Bool (nat_eq s e.0)) [
        | inl t ↦ absurd (some_is_not_none e.1 (sym (find-cons s e es ∙ ap (λ b. cond b (Some e.1) (find s es)) t) ∙ h))
        | inr f ↦ f
      ]

  pub not_tail : (s : ℕ) (e : ℕ × X) (es : List (ℕ × X)) → find s (e ∷ es) ≡ None → find s es ≡ None
  not_tail s e es h = sym (find-tail s e es (not_head s e es h)) ∙ h

  -- an entry is found, where none stands twice
  pub find_at : (es : List (ℕ × X)) (i : ℕ) (d : ℕ × X) → IsApart es → i < length es → find (get_or es i d).0 es ≡ Some (get_or es i d).1
  find_at [] i d apart within = absurd (omega arith)
  find_at (e ∷ es) zero d apart within = find-head e es
  find_at (e ∷ es) (suc i) d apart within =
      let there = find_at es i d apart.1 (omega arith) in
      elim (cases_Bool (nat_eq (get_or es i d).0 e.0)) [
        | inl t ↦ absurd (some_is_not_none (get_or es i d).1 (sym there ∙ subst (λ (x : ℕ). find x es ≡ None) (sym (eqb-true (get_or es i d).0 e.0 t)) apart.0))
        | inr f ↦ find-tail (get_or es i d).0 e es f ∙ there
      ]

  -- an entry more
  pub find-insert : (es : List (ℕ × X)) (i : ℕ) (s : ℕ) (x : X) (q : ℕ) → find s es ≡ None → find q (insert es i (s, x)) ≡ cond (nat_eq q s) (Some x) (find q es)
  find-insert es zero s x q none = find-cons q (s, x) es
  find-insert [] (suc i) s x q none = find-cons q (s, x) []
  find-insert (e ∷ es) (suc i) s x q none =
      find-cons q e (insert es i (s, x))
      ∙ ap (cond (nat_eq q e.0) (Some e.1)) (find-insert es i s x q (not_tail s e es none))
      ∙ swapped (nat_eq q e.0) (nat_eq q s) (Some e.1) (Some x) (find q es)
      (λ t u. false≢true (sym (not_head s e es none) ∙ subst (λ (y : ℕ). nat_eq y e.0 ≡ true) (eqb-true q s u) t))
      ∙ ap (cond (nat_eq q s) (Some x)) (sym (find-cons q e es))

  -- an entry less
  pub find-remove : (es : List (ℕ × X)) (i : ℕ) (d : ℕ × X) (q : ℕ) → IsApart es → i < length es → find q (remove es i) ≡ cond (nat_eq q (get_or es i d).0) None (find q es)
  find-remove [] i d q apart within = absurd (omega arith)
  find-remove (e ∷ es) zero d q apart within =
      elim (cases_Bool (nat_eq q e.0)) [
        | inl t ↦
            subst (λ (y : ℕ). find y es ≡ None) (sym (eqb-true q e.0 t)) apart.0
            ∙ ap (λ b. cond b None (find q (e ∷ es))) (sym t)
        | inr f ↦ sym (find-tail q e es f) ∙ ap (λ b. cond b None (find q (e ∷ es))) (sym f)
      ]
  find-remove (e ∷ es) (suc i) d q apart within =
      let there = find_at es i d apart.1 (omega arith) in
      find-cons q e (remove es i)
      ∙ ap (cond (nat_eq q e.0) (Some e.1)) (find-remove es i d q apart.1 (omega arith))
      ∙ swapped (nat_eq q e.0) (nat_eq q (get_or es i d).0) (Some e.1) None (find q es)
      (λ t u. some_is_not_none (get_or es i d).1 (sym there ∙ subst (λ (x : ℕ). find x es ≡ None) (sym (eqb-true q e.0 t) ∙ eqb-true q (get_or es i d).0 u) apart.0))
      ∙ ap (cond (nat_eq q (get_or es i d).0) None) (sym (find-cons q e es))

  -- the maps
  pub from_entries-insert : (es : List (ℕ × X)) (i : ℕ) (s : ℕ) (x : X) → find s es ≡ None → map.from_entries {R = nat_cmp} (insert es i (s, x)) ≡ map.insert (map.from_entries es) s x
  from_entries-insert es i s x none =
      map.same_map nat_cmp_total map.nat_cmp-IsAntisymmetric _ _ (λ q.
      map.get-from_entries nat_cmp_total _ q ∙ find-insert es i s x q none
      ∙ ap (λ b. cond b (Some x) (find q es)) (sym (unsigned_tied q s))
      ∙ sym (map.get-insert nat_cmp_total (map.from_entries es) s x q ∙ ap (cond (eq_by_cmp nat_cmp q s) (Some x)) (map.get-from_entries nat_cmp_total es q)))

  pub from_entries-remove : (es : List (ℕ × X)) (i : ℕ) (d : ℕ × X) → IsApart es → i < length es → map.from_entries {R = nat_cmp} (remove es i) ≡ map.remove (map.from_entries es) (get_or es i d).0
  from_entries-remove es i d apart within =
      map.same_map nat_cmp_total map.nat_cmp-IsAntisymmetric _ _ (λ q.
      map.get-from_entries nat_cmp_total _ q ∙ find-remove es i d q apart within
      ∙ ap (λ b. cond b None (find q es)) (sym (unsigned_tied q (get_or es i d).0))
      ∙ sym (map.get-remove nat_cmp_total (map.from_entries es) (get_or es i d).0 q ∙ ap (cond (eq_by_cmp nat_cmp q (get_or es i d).0) None) (map.get-from_entries nat_cmp_total es q)))

  -- taking out a serial number that is not there
  pub remove-absent : (m : map.FinMap nat_cmp X) (s : ℕ) → map.get m s ≡ None → m ≡ map.remove m s
  remove-absent m s none =
      map.same_map nat_cmp_total map.nat_cmp-IsAntisymmetric _ _ (λ q. by_test q (cases_Bool (nat_eq q s)) ∙ sym (map.get-remove nat_cmp_total m s q ∙ ap (λ b. cond b None (map.get m q)) (unsigned_tied q s)))
    where
      by_test : (q : ℕ) → (nat_eq q s ≡ true) ⊎ (nat_eq q s ≡ false) → map.get m q ≡ cond (nat_eq q s) None (map.get m q)
      by_test q (inl t) = subst (λ (y : ℕ). map.get m y ≡ None) (sym (eqb-true q s t)) none ∙ ap (λ b. cond b None (map.get m q)) (sym t)
      by_test q (inr f) = ap (λ b. cond b None (map.get m q)) (sym f)

  -- a map has as many keys as the list
  pub len-from_entries : (es : List (ℕ × X)) → IsApart es → map.len (map.from_entries {R = nat_cmp} es) ≡ length es
  len-from_entries [] a = map.len-empty nat_cmp X
  len-from_entries (e ∷ es) a =
      map.len-insert nat_cmp_total (map.from_entries es) e.0 e.1
      ∙ ap (λ (o : Option X). cond (is_some o) (map.len (map.from_entries {R = nat_cmp} es)) (map.len (map.from_entries {R = nat_cmp} es) + 1)) (map.get-from_entries nat_cmp_total es e.0 ∙ a.0)
      ∙ ap (λ n. n + 1) (len-from_entries es a.1)
      ∙ add-one-is (length es)
    where
      add-one-is : (n : ℕ) → n + 1 ≡ suc n
      add-one-is n = omega arith
