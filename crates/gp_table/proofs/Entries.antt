-- A list of entries by serial number in which none stands twice, and what an edit of it does to the map that it makes.
use Rattle.std.proofs.Common.{◌≡◌, ℕ, zero, suc, ◌<◌, Bool, true, false, cond, List, [], ◌∷◌, length, ◌⊎◌, Option, None, Some, inl, inr, refl, sym, ap, subst, ◌∙◌, get_or, arith}
use Rattle.std.proofs.lemmas.Bool.{cases_Bool, false≢true}
use Rattle.std.proofs.Math.ListN.{set}
use Rattle.std.specs.List.{insert}
use Rattle.std.specs.FinMap as map
use Rattle.std.specs.Ordering.{eq_by_cmp}
use Rattle.gp_ploam.specs.declared.message.Serial.{Serial}
use Rattle.gp_ploam.specs.Serials.{serial_cmp, same_serial}
use Rattle.gp_ploam.proofs.Serials.{serials_total, serials_exact, by_cmp-same, same_serial-true, same_serial-itself}

swapped : {A : Type 0} (a b : Bool) (x y z : A) → (a ≡ true → b ≡ true → ⊥) → cond a x (cond b y z) ≡ cond b y (cond a x z)
swapped true true x y z apart = absurd (apart refl refl)
swapped true false x y z apart = refl
swapped false b x y z apart = refl

module _ {X : Type 0} where
  abbrev pub find : Serial → List (Serial × X) → Option X
  find s es = map.find serial_cmp s es

  -- no serial number stands twice
  abbrev pub IsApart : List (Serial × X) → Type 0
  IsApart [] = Unit {0}
  IsApart (e ∷ es) = (find e.0 es ≡ None) × IsApart es

  some_is_not_none : (x : X) → Some x ≡ None → ⊥
  some_is_not_none x e = cc

  pub find-cons : (q : Serial) (e : Serial × X) (es : List (Serial × X)) → find q (e ∷ es) ≡ cond (same_serial q e.0) (Some e.1) (find q es)
  find-cons q e es = ap (λ b. cond b (Some e.1) (find q es)) (by_cmp-same q e.0)

  pub find-head : (e : Serial × X) (es : List (Serial × X)) → find e.0 (e ∷ es) ≡ Some e.1
  find-head e es = find-cons e.0 e es ∙ ap (λ b. cond b (Some e.1) (find e.0 es)) (same_serial-itself e.0)

  pub find-tail : (q : Serial) (e : Serial × X) (es : List (Serial × X)) → same_serial q e.0 ≡ false → find q (e ∷ es) ≡ find q es
  find-tail q e es f = find-cons q e es ∙ ap (λ b. cond b (Some e.1) (find q es)) f

  -- a serial number that is not found is not the first, and not among the others
  pub not_head : (s : Serial) (e : Serial × X) (es : List (Serial × X)) → find s (e ∷ es) ≡ None → same_serial s e.0 ≡ false
  not_head s e es h =
      elim (cases_Bool (same_serial s e.0)) [
        | inl t ↦ absurd (some_is_not_none e.1 (sym (find-cons s e es ∙ ap (λ b. cond b (Some e.1) (find s es)) t) ∙ h))
        | inr f ↦ f
      ]

  pub not_tail : (s : Serial) (e : Serial × X) (es : List (Serial × X)) → find s (e ∷ es) ≡ None → find s es ≡ None
  not_tail s e es h = sym (find-tail s e es (not_head s e es h)) ∙ h

  -- an entry is found, where none stands twice
  pub find_at : (es : List (Serial × X)) (i : ℕ) (d : Serial × X) → IsApart es → i < length es → find (get_or es i d).0 es ≡ Some (get_or es i d).1
  find_at [] i d apart within = absurd (omega arith)
  find_at (e ∷ es) zero d apart within = find-head e es
  find_at (e ∷ es) (suc i) d apart within =
      let there = find_at es i d apart.1 (omega arith) in
      elim (cases_Bool (same_serial (get_or es i d).0 e.0)) [
        | inl t ↦ absurd (some_is_not_none (get_or es i d).1 (sym there ∙ subst (λ (x : Serial). find x es ≡ None) (sym (same_serial-true (get_or es i d).0 e.0 t)) apart.0))
        | inr f ↦ find-tail (get_or es i d).0 e es f ∙ there
      ]

  -- an entry more
  pub find-insert : (es : List (Serial × X)) (i : ℕ) (s : Serial) (x : X) (q : Serial) → find s es ≡ None → find q (insert es i (s, x)) ≡ cond (same_serial q s) (Some x) (find q es)
  find-insert es zero s x q none = find-cons q (s, x) es
  find-insert [] (suc i) s x q none = find-cons q (s, x) []
  find-insert (e ∷ es) (suc i) s x q none =
      find-cons q e (insert es i (s, x))
      ∙ ap (cond (same_serial q e.0) (Some e.1)) (find-insert es i s x q (not_tail s e es none))
      ∙ swapped (same_serial q e.0) (same_serial q s) (Some e.1) (Some x) (find q es)
      (λ t u. false≢true (sym (not_head s e es none) ∙ subst (λ (y : Serial). same_serial y e.0 ≡ true) (same_serial-true q s u) t))
      ∙ ap (cond (same_serial q s) (Some x)) (sym (find-cons q e es))

  -- another value for one of the serial numbers
  pub find-set : (es : List (Serial × X)) (i : ℕ) (d : Serial × X) (s : Serial) (x : X) (q : Serial) → IsApart es → i < length es → (get_or es i d).0 ≡ s → find q (set es i (s, x)) ≡ cond (same_serial q s) (Some x) (find q es)
  find-set [] i d s x q apart within is = absurd (omega arith)
  find-set (e ∷ es) zero d s x q apart within is =
      find-cons q (s, x) es
      ∙ elim (cases_Bool (same_serial q s)) [
        | inl t ↦ ap (λ b. cond b (Some x) (find q es)) t ∙ ap (λ b. cond b (Some x) (find q (e ∷ es))) (sym t)
        | inr f ↦
            ap (λ b. cond b (Some x) (find q es)) f
            ∙ sym (find-tail q e es (ap (same_serial q) is ∙ f))
            ∙ ap (λ b. cond b (Some x) (find q (e ∷ es))) (sym f)
      ]
  find-set (e ∷ es) (suc i) d s x q apart within is =
      let there : find s es ≡ Some (get_or es i d).1 = ap (λ (y : Serial). find y es) (sym is) ∙ find_at es i d apart.1 (omega arith) in
      find-cons q e (set es i (s, x))
      ∙ ap (cond (same_serial q e.0) (Some e.1)) (find-set es i d s x q apart.1 (omega arith) is)
      ∙ swapped (same_serial q e.0) (same_serial q s) (Some e.1) (Some x) (find q es)
      (λ t u. some_is_not_none (get_or es i d).1 (sym there ∙ subst (λ (y : Serial). find y es ≡ None) (sym (same_serial-true q e.0 t) ∙ same_serial-true q s u) apart.0))
      ∙ ap (cond (same_serial q s) (Some x)) (sym (find-cons q e es))

  -- the maps
  pub from_entries-insert : (es : List (Serial × X)) (i : ℕ) (s : Serial) (x : X) → find s es ≡ None → map.from_entries {R = serial_cmp} (insert es i (s, x)) ≡ map.insert (map.from_entries es) s x
  from_entries-insert es i s x none =
      map.same_map serials_total serials_exact _ _ (λ q.
      map.get-from_entries serials_total _ q ∙ find-insert es i s x q none
      ∙ ap (λ b. cond b (Some x) (find q es)) (sym (by_cmp-same q s))
      ∙ sym (map.get-insert serials_total (map.from_entries es) s x q ∙ ap (cond (eq_by_cmp serial_cmp q s) (Some x)) (map.get-from_entries serials_total es q)))

  pub from_entries-set : (es : List (Serial × X)) (i : ℕ) (d : Serial × X) (s : Serial) (x : X) → IsApart es → i < length es → (get_or es i d).0 ≡ s → map.from_entries {R = serial_cmp} (set es i (s, x)) ≡ map.insert (map.from_entries es) s x
  from_entries-set es i d s x apart within is =
      map.same_map serials_total serials_exact _ _ (λ q.
      map.get-from_entries serials_total _ q ∙ find-set es i d s x q apart within is
      ∙ ap (λ b. cond b (Some x) (find q es)) (sym (by_cmp-same q s))
      ∙ sym (map.get-insert serials_total (map.from_entries es) s x q ∙ ap (cond (eq_by_cmp serial_cmp q s) (Some x)) (map.get-from_entries serials_total es q)))

  -- taking out a serial number that is not there
  pub remove-absent : (m : map.FinMap serial_cmp X) (s : Serial) → map.get m s ≡ None → m ≡ map.remove m s
  remove-absent m s none =
      map.same_map serials_total serials_exact _ _ (λ q. by_test q (cases_Bool (same_serial q s)) ∙ sym (map.get-remove serials_total m s q ∙ ap (λ b. cond b None (map.get m q)) (by_cmp-same q s)))
    where
      by_test : (q : Serial) → (same_serial q s ≡ true) ⊎ (same_serial q s ≡ false) → map.get m q ≡ cond (same_serial q s) None (map.get m q)
      by_test q (inl t) = subst (λ (y : Serial). map.get m y ≡ None) (sym (same_serial-true q s t)) none ∙ ap (λ b. cond b None (map.get m q)) (sym t)
      by_test q (inr f) = ap (λ b. cond b None (map.get m q)) (sym f)
