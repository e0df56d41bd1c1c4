-- Who holds which ONU-ID, before and after each change.
use Rattle.std.proofs.Common.{◌≡◌, ℕ, ◌==◌, Bool, true, false, cond, None, Some, inl, inr, refl, sym, ap, subst, ◌∙◌, eq-eqb}
use Rattle.std.specs.Prelude.{if◌then◌else◌}
use Rattle.std.proofs.lemmas.Bool.{cases_Bool, cases_eq, ne_eqb}
use Rattle.gp_ploam.specs.declared.message.Serial.{Serial}
use Rattle.gp_ploam.specs.Serials.{same_serial}
use Rattle.gp_ploam.proofs.Serials.{same_serial-true, same_serial-itself}
use Rattle.hear_rules.specs.Facts.{Fact, Unknown, Nothing, Is, Sure, Yes, No, Unsure}
use Rattle.hear_rules.specs.Known.{Known, Number, Unheard, Nobodys, Of, left_by, given_up, assigned, after_assign, after_disable, after_drop, after_drop_all, dropped}
use Rattle.hear_state.specs.Kept.{holder_of, IsIndexed, SameUnits}

none_some : {X : Type 0} (x : X) → None ≡ Some x → ⊥
none_some x h = cc

one : {X : Type 0} (x y : X) → Some x ≡ Some y → x ≡ y
one x y h = cc

is_is : (m n : ℕ) → Is m ≡ Is n → m ≡ n
is_is m n h = cc

nothing_is : (n : ℕ) → Nothing ≡ Is n → ⊥
nothing_is n h = cc

unknown_is : (n : ℕ) → Unknown ≡ Is n → ⊥
unknown_is n h = cc

true_false : (b : Bool) → b ≡ true → b ≡ false → ⊥
true_false b t f = cc

-- ---- an ONU-ID that its unit leaves

pub left_own : (n : Number) (s : Serial) → holder_of n ≡ Some s → left_by n s ≡ Nobodys
left_own Unheard s h = absurd (none_some s h)
left_own Nobodys s h = absurd (none_some s h)
left_own (Of holder delay answers) s h = ap (λ b. cond b Nobodys (Of holder delay answers)) (subst (λ t. same_serial s t ≡ true) (sym (one holder s h)) (same_serial-itself s))

pub left_other : (n : Number) (s : Serial) → (holder_of n ≡ Some s → ⊥) → left_by n s ≡ n
left_other Unheard s never = refl
left_other Nobodys s never = refl
left_other (Of holder delay answers) s never = elim (cases_Bool (same_serial s holder)) [
  | inl t ↦ absurd (never (ap Some (sym (same_serial-true s holder t))))
  | inr f ↦ ap (λ b. cond b Nobodys (Of holder delay answers)) f
]

left_holder : (n : Number) (s t : Serial) → holder_of (left_by n s) ≡ Some t → (holder_of n ≡ Some t) × (same_serial t s ≡ false)
left_holder Unheard s t h = absurd (none_some t h)
left_holder Nobodys s t h = absurd (none_some t h)
left_holder (Of holder delay answers) s t h = elim (cases_Bool (same_serial s holder)) [
  | inl t1 ↦ absurd (none_some t (sym (ap (λ b. holder_of (cond b Nobodys (Of holder delay answers))) t1) ∙ h))
  | inr f1 ↦
      let is : Some holder ≡ Some t = sym (ap (λ b. holder_of (cond b Nobodys (Of holder delay answers))) f1) ∙ h in (
        is,
        elim (cases_Bool (same_serial t s)) [
          | inl same ↦ absurd (true_false (same_serial s s) (same_serial-itself s) (subst (λ u. same_serial s u ≡ false) (one holder t is ∙ same_serial-true t s same) f1))
          | inr other ↦ other
        ],
      )
]

left_stays : (n : Number) (s t : Serial) → holder_of n ≡ Some t → same_serial t s ≡ false → holder_of (left_by n s) ≡ Some t
left_stays n s t h other =
    ap holder_of (left_other n s (λ e. true_false (same_serial t s) (subst (λ u. same_serial u s ≡ true) (one s t (sym e ∙ h)) (same_serial-itself s)) other)) ∙ h

-- ---- a unit that gives its ONU-ID up

pub gave_up_own : (n : ℕ) → given_up (Is n) n ≡ Nothing
gave_up_own n = ap (λ b. cond b Nothing (Is n)) (eq-eqb n n refl)

pub gave_up_other : (f : Fact ℕ) (n : ℕ) → (f ≡ Is n → ⊥) → given_up f n ≡ f
gave_up_other Unknown n never = refl
gave_up_other Nothing n never = refl
gave_up_other (Is m) n never = ap (λ b. cond b Nothing (Is m)) (ne_eqb m n (λ e. never (ap Is e)))

gave_up_is : (f : Fact ℕ) (n m : ℕ) → given_up f n ≡ Is m → (f ≡ Is m) × (m ≡ n → ⊥)
gave_up_is Unknown n m h = absurd (unknown_is m h)
gave_up_is Nothing n m h = absurd (nothing_is m h)
gave_up_is (Is k) n m h = elim (cases_eq k n) [
  | inl same ↦ absurd (nothing_is m (sym (ap (λ b. cond b Nothing (Is k)) (eq-eqb k n same)) ∙ h))
  | inr other ↦ let is : Is k ≡ Is m = sym (ap (λ b. cond b Nothing (Is k)) (ne_eqb k n other)) ∙ h in (is, λ e. other (is_is k m is ∙ e))
]

-- ---- an ONU-ID that is assigned

pub assigned_holder : (asked : Sure) (n : Number) (s : Serial) → holder_of (assigned asked n s) ≡ Some s
assigned_holder Yes Unheard s = refl
assigned_holder No Unheard s = refl
assigned_holder Unsure Unheard s = refl
assigned_holder asked Nobodys s = refl
assigned_holder asked (Of holder delay answers) s = elim (cases_Bool (same_serial s holder)) [
  | inl t ↦ ap (λ b. holder_of (cond b (Of holder delay answers) (Of s Nothing Nothing))) t ∙ ap Some (sym (same_serial-true s holder t))
  | inr f ↦ ap (λ b. holder_of (cond b (Of holder delay answers) (Of s Nothing Nothing))) f
]

-- ---- what is the same, is the same

pub indexed_as : (a b : Known) → ((n : ℕ) → holder_of (b.numbers n) ≡ holder_of (a.numbers n)) → ((s : Serial) → b.holds s ≡ a.holds s) → IsIndexed a → IsIndexed b
indexed_as a b numbers holds is = record {
  held = λ n s h. holds s ∙ is.held n s (sym (numbers n) ∙ h);
  holder = λ n s h. numbers n ∙ is.holder n s (sym (holds s) ∙ h);
}

pub indexed_same : (a b : Known) → SameUnits b a → IsIndexed a → IsIndexed b
indexed_same a b same is = indexed_as a b (λ n. ap holder_of (same.numbers n)) same.holds is

-- ---- the changes

module _ (known : Known) (is : IsIndexed known) where
  pub indexed-assign : (onu : ℕ) (serial : Serial) → IsIndexed (after_assign known onu serial)
  indexed-assign onu serial = record { held = held; holder = holder }
    where
      held : (n : ℕ) (s : Serial) → holder_of (if n == onu then assigned (known.asked serial) (known.numbers n) serial else left_by (known.numbers n) serial) ≡ Some s
          → (if same_serial s serial then Is onu else given_up (known.holds s) onu) ≡ Is n
      held n s h = elim (cases_eq n onu) [
        | inl here ↦
            let t : Some serial ≡ Some s =
            sym (assigned_holder (known.asked serial) (known.numbers n) serial)
            ∙ sym (ap (λ b. holder_of (cond b (assigned (known.asked serial) (known.numbers n) serial) (left_by (known.numbers n) serial))) (eq-eqb n onu here)) ∙ h in
            ap (λ b. cond b (Is onu) (given_up (known.holds s) onu)) (subst (λ u. same_serial u serial ≡ true) (one serial s t) (same_serial-itself serial)) ∙ ap Is (sym here)
        | inr other ↦
            let was = left_holder (known.numbers n) serial s (sym (ap (λ b. holder_of (cond b (assigned (known.asked serial) (known.numbers n) serial) (left_by (known.numbers n) serial))) (ne_eqb n onu other)) ∙ h) in
            ap (λ b. cond b (Is onu) (given_up (known.holds s) onu)) was.1
            ∙ gave_up_other (known.holds s) onu (λ e. other (is_is n onu (sym (is.held n s was.0) ∙ e))) ∙ is.held n s was.0
      ]

      holder : (n : ℕ) (s : Serial) → (if same_serial s serial then Is onu else given_up (known.holds s) onu) ≡ Is n
          → holder_of (if n == onu then assigned (known.asked serial) (known.numbers n) serial else left_by (known.numbers n) serial) ≡ Some s
      holder n s h = elim (cases_Bool (same_serial s serial)) [
        | inl t ↦
            let here : onu ≡ n = is_is onu n (sym (ap (λ b. cond b (Is onu) (given_up (known.holds s) onu)) t) ∙ h) in
            ap (λ b. holder_of (cond b (assigned (known.asked serial) (known.numbers n) serial) (left_by (known.numbers n) serial))) (eq-eqb n onu (sym here))
            ∙ assigned_holder (known.asked serial) (known.numbers n) serial ∙ ap Some (sym (same_serial-true s serial t))
        | inr f ↦
            let was = gave_up_is (known.holds s) onu n (sym (ap (λ b. cond b (Is onu) (given_up (known.holds s) onu)) f) ∙ h) in
            ap (λ b. holder_of (cond b (assigned (known.asked serial) (known.numbers n) serial) (left_by (known.numbers n) serial))) (ne_eqb n onu was.1)
            ∙ left_stays (known.numbers n) serial s (is.holder n s was.0) f
      ]

  pub indexed-drop : (onu : ℕ) → IsIndexed (after_drop known onu)
  indexed-drop onu = record { held = held; holder = holder }
    where
      none : (n : Number) → holder_of (dropped n) ≡ None
      none Unheard = refl
      none Nobodys = refl
      none (Of holder delay answers) = refl

      held : (n : ℕ) (s : Serial) → holder_of (if n == onu then dropped (known.numbers n) else known.numbers n) ≡ Some s → given_up (known.holds s) onu ≡ Is n
      held n s h = elim (cases_eq n onu) [
        | inl here ↦ absurd (none_some s (sym (none (known.numbers n)) ∙ sym (ap (λ b. holder_of (cond b (dropped (known.numbers n)) (known.numbers n))) (eq-eqb n onu here)) ∙ h))
        | inr other ↦
            let was = is.held n s (sym (ap (λ b. holder_of (cond b (dropped (known.numbers n)) (known.numbers n))) (ne_eqb n onu other)) ∙ h) in
            gave_up_other (known.holds s) onu (λ e. other (is_is n onu (sym was ∙ e))) ∙ was
      ]

      holder : (n : ℕ) (s : Serial) → given_up (known.holds s) onu ≡ Is n → holder_of (if n == onu then dropped (known.numbers n) else known.numbers n) ≡ Some s
      holder n s h =
          let was = gave_up_is (known.holds s) onu n h in
          ap (λ b. holder_of (cond b (dropped (known.numbers n)) (known.numbers n))) (ne_eqb n onu was.1) ∙ is.holder n s was.0

  pub indexed-disable : (serial : Serial) → IsIndexed (after_disable known serial)
  indexed-disable serial = record { held = held; holder = holder }
    where
      held : (n : ℕ) (s : Serial) → holder_of (left_by (known.numbers n) serial) ≡ Some s → (if same_serial s serial then Nothing else known.holds s) ≡ Is n
      held n s h =
          let was = left_holder (known.numbers n) serial s h in
          ap (λ b. cond b Nothing (known.holds s)) was.1 ∙ is.held n s was.0

      holder : (n : ℕ) (s : Serial) → (if same_serial s serial then Nothing else known.holds s) ≡ Is n → holder_of (left_by (known.numbers n) serial) ≡ Some s
      holder n s h = elim (cases_Bool (same_serial s serial)) [
        | inl t ↦ absurd (nothing_is n (sym (ap (λ b. cond b Nothing (known.holds s)) t) ∙ h))
        | inr f ↦ left_stays (known.numbers n) serial s (is.holder n s (sym (ap (λ b. cond b Nothing (known.holds s)) f) ∙ h)) f
      ]

  pub indexed-drop_all : IsIndexed (after_drop_all known)
  indexed-drop_all = record { held = λ n s h. absurd (none_some s (sym (none (known.numbers n)) ∙ h)); holder = λ n s h. absurd (nothing_is n h) }
    where
      none : (n : Number) → holder_of (dropped n) ≡ None
      none Unheard = refl
      none Nobodys = refl
      none (Of holder delay answers) = refl
