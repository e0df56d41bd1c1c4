-- No rule is broken by a message that keeps the rules, to an observer that follows some serial numbers.
use Rattle.std.proofs.Common.{◌≡◌, ◌≢◌, ℕ, suc, zero, ◌+◌, ◌≤◌, ◌==◌, Bool, true, false, cond, not, ◌&&◌, ◌||◌, List, [], ◌∷◌, Option, None, Some, inl, inr, refl, sym, ap, ◌∙◌, arith, is_some, eq-eqb, nat_lt}
use Rattle.std.specs.Prelude.{is_none}
use Rattle.std.specs.FinMap.{get}
use Rattle.std.specs.FinSet.{contains}
use Rattle.std.proofs.lemmas.Bool.{cases_Bool, false≢true, ne_eqb, le-leb, ltb-true}
use Rattle.gp_ploam.specs.declared.message.Serial.{Serial}
use Rattle.gp_ploam.specs.declared.message.Down.{Down}
use Rattle.gp_ploam.specs.declared.message.Down.TheVariants.{AssignOnu, RangingTime, Deactivate, AssignAlloc, Popup}
use Rattle.gp_ploam.specs.Serials.{same_serial}
use Rattle.gp_ploam.proofs.Serials.{same_serial-true, same_serial-itself}
use Rattle.gp_ranging.specs.declared.grant.Grant.{Grant}
use Rattle.gp_ranging.specs.declared.grant.Grant.TheVariants.{Search, Range, Poll}
use Rattle.gp_machine.specs.State.{some_number}
use Rattle.gp_observer.specs.declared.rule.Rule.{Rule}
use Rattle.gp_observer.specs.Observer.{Observed, some_passes, is_of}
use Rattle.gp_observer.specs.Watch.{Watch}
use Rattle.gp_observer.specs.Rules.{Settings, is_judged, is_nobodys, is_held, is_unranged, leaves_no_answer, breaks_range, breaks_barred, breaks_unasked, breaks_taken, breaks_renumbered, breaks_nobody, breaks_unranged, breaks_delay, breaks_early, breaks_shared, breaks_not_held, breaks_grant}
use Rattle.gp_observer.specs.Heard.{broken_of, message_rules}
use Rattle.gp_observer.proofs.Keeping.{IsHeld, IsRanged, KeepsRules}
use Rattle.gp_observer.proofs.Agreeing.{Agrees}
use Rattle.gp_observer.proofs.Asking.{HaveAsked, left_in, assigns, one_if}
use Rattle.gp_observer.proofs.Answering.{Owed, HasAnswered}

-- ---- tests

and_none : (b c : Bool) → (b ≡ true → c ≡ false) → (b && c) ≡ false
and_none true c f = f refl
and_none false c f = refl

or_none : (b c : Bool) → b ≡ false → c ≡ false → (b || c) ≡ false
or_none b c h k = ap (λ x. x || c) h ∙ k

first : (b c : Bool) → (b && c) ≡ true → b ≡ true
first true c h = refl
first false c h = absurd (false≢true h)

known : (b : Bool) → not b ≡ true → b ≡ false
known true h = absurd (false≢true h)
known false h = refl

-- no number passes
no_number : (test : ℕ → Bool) (first count : ℕ) → ((k : ℕ) → test k ≡ false) → some_number first count test ≡ false
unfolding some_number
no_number test first zero none = refl
no_number test first (suc count) none = or_none (test first) (some_number (suc first) count test) (none first) (no_number test (suc first) count none)

-- none of the rules is broken
abbrev NoneBroken : List (Bool × Rule) → Type 0
NoneBroken [] = Unit {0}
NoneBroken ((broken, rule) ∷ rules) = (broken ≡ false) × NoneBroken rules

pub none_broken : (rules : List (Bool × Rule)) → NoneBroken rules → broken_of rules ≡ []
none_broken [] h = refl
none_broken ((broken, rule) ∷ rules) h = ap (λ b. cond b (rule ∷ broken_of rules) (broken_of rules)) h.0 ∙ none_broken rules h.1

-- ---- questions

module _ (w : Watch) (s : Observed) (is : Agrees w.unknown w.seen s) where
  judged : (n : ℕ) → is_judged w n ≡ true → contains w.unknown n ≡ false
  judged n h = known (contains w.unknown n) h

  not_nobodys : (n : ℕ) → IsHeld s n → is_nobodys w n ≡ false
  not_nobodys n held = and_none (is_judged w n) (is_none (get w.seen.holder n)) (λ j. ap is_none (is.holder n (judged n j) ∙ held.1))

  not_unranged : (n : ℕ) → IsRanged s n → is_unranged w n ≡ false
  not_unranged n ranged = and_none (is_held w n) (is_none (get w.seen.delay n)) (λ held. ap is_none (is.delay n (judged n (first (is_judged w n) (is_some (get w.seen.holder n)) held)) ∙ ranged.1.1))

  held_judged : (n : ℕ) → is_held w n ≡ true → contains w.unknown n ≡ false
  held_judged n held = judged n (first (is_judged w n) (is_some (get w.seen.holder n)) held)

  -- who holds an ONU-ID to this observer holds it
  holds : (n : ℕ) (t : Serial) → get w.seen.holder n ≡ Some t → get s.holder n ≡ Some t
  holds n t h =
      elim (cases_Bool (contains w.unknown n)) [
        | inl b ↦ absurd (none_some (sym (is.nobody n b) ∙ h))
        | inr b ↦ sym (is.holder n b) ∙ h
      ]
    where
      none_some : ◌≡◌ {A = Option Serial} None (Some t) → ⊥
      none_some e = cc

  -- ---- the rules of a message

  module _ (settings : Settings) where
    not_range : (m : Down) → KeepsRules s m → breaks_range m ≡ false
    not_range (AssignOnu n t) h = ap not (le-leb n 253 h.low)
    not_range (AssignAlloc n a true) h = by_test (nat_lt a 256) refl
      where
        by_test : (b : Bool) → nat_lt a 256 ≡ b → nat_lt a 256 ≡ false
        by_test true e = let below = ltb-true a 256 e in let above = h.1 in absurd (omega arith)
        by_test false e = e
    not_range (AssignAlloc n a false) h = refl
    not_range m h = refl

    not_barred : (m : Down) → KeepsRules s m → breaks_barred w m ≡ false
    not_barred (AssignOnu n t) h =
        elim (cases_Bool (contains w.seen.disabled t)) [
          | inl b ↦ absurd (false≢true (sym h.enabled ∙ is.disabled t b))
          | inr b ↦ b
        ]
    not_barred m h = refl

    not_unasked : (m : Down) (ms : List Down) → (w.midway ≡ false → HaveAsked w.asks (m ∷ ms)) → breaks_unasked w m ≡ false
    not_unasked (AssignOnu n t) ms asked = and_none (not w.midway && is_judged w n) _ (λ early. by_left (asked (known w.midway (first (not w.midway) (is_judged w n) early))) (left_in w.asks t) refl)
      where
        by_left : HaveAsked w.asks (AssignOnu n t ∷ ms) → (o : Option ℕ) → left_in w.asks t ≡ o → some_passes (λ asks. asks == 0) o ≡ false
        by_left h None e = refl
        by_left h (Some a) e =
            let most : one_if (same_serial t t) + assigns t ms ≤ a = h t a e in
            let one : one_if (same_serial t t) ≡ 1 = ap one_if (same_serial-itself t) in
            ne_eqb a 0 (λ z. omega (arith, most, one, z))
    not_unasked m ms asked = refl

    not_taken : (m : Down) → KeepsRules s m → breaks_taken w m ≡ false
    not_taken (AssignOnu n t) h = by_holder (get w.seen.holder n) refl
      where
        by_holder : (o : Option Serial) → get w.seen.holder n ≡ o → some_passes (λ holder. not (same_serial t holder)) o ≡ false
        by_holder None e = refl
        by_holder (Some x) e = ap (λ (y : Serial). not (same_serial t y)) (h.unheld x (holds n x e)) ∙ ap not (same_serial-itself t)
    not_taken m h = refl

    not_renumbered : (m : Down) → KeepsRules s m → breaks_renumbered w m ≡ false
    not_renumbered (AssignOnu n t) h = no_number (λ k. not (k == n) && is_of w.seen t k) 0 254 (λ k. and_none (not (k == n)) (is_of w.seen t k) (λ other. by_holder k (known (k == n) other) (get w.seen.holder k) refl))
      where
        by_holder : (k : ℕ) → (k == n) ≡ false → (o : Option Serial) → get w.seen.holder k ≡ o → some_passes (λ holder. same_serial t holder) o ≡ false
        by_holder k other None e = refl
        by_holder k other (Some x) e =
            elim (cases_Bool (same_serial t x)) [
              | inl b ↦ absurd (false≢true (sym other ∙ eq-eqb k n (h.one k (holds k t (e ∙ ap Some (sym (same_serial-true t x b)))))))
              | inr b ↦ b
            ]
    not_renumbered m h = refl

    unit_held : (n : ℕ) → (n ≢ 255 → IsHeld s n) → some_passes (is_nobodys w) (cond (n == 255) None (Some n)) ≡ false
    unit_held n held =
        elim (cases_Bool (n == 255)) [
          | inl b ↦ ap (λ c. some_passes (is_nobodys w) (cond c None (Some n))) b
          | inr b ↦ ap (λ c. some_passes (is_nobodys w) (cond c None (Some n))) b ∙ not_nobodys n (held (λ same. false≢true (sym b ∙ eq-eqb n 255 same)))
        ]

    not_nobody : (m : Down) → KeepsRules s m → breaks_nobody w m ≡ false
    not_nobody (RangingTime n eqd) h = not_nobodys n h.0
    not_nobody (Deactivate n) h = unit_held n (λ differs. h.0)
    not_nobody (AssignAlloc n a true) h = not_nobodys n h.0.0
    not_nobody (AssignAlloc n a false) h = not_nobodys n h.0.0
    not_nobody (Popup n) h = unit_held n (λ differs. (h differs).0)
    not_nobody m h = refl

    -- who is ranged answered, where it is known who is
    abbrev pub Answered : ℕ → ℕ → Type 0
    Answered n eqd = contains w.unknown n ≡ false → HasAnswered settings w.answers n eqd

    not_unheard : (m : Down) → Owed Answered m → breaks_unranged w m ≡ false
    not_unheard (RangingTime n eqd) h = and_none (is_held w n) (is_none (get w.answers n)) (λ held. ap is_none (h (held_judged n held)).there)
    not_unheard m h = refl

    not_delay : (m : Down) → Owed Answered m → breaks_delay settings w m ≡ false
    not_delay (RangingTime n eqd) h =
        and_none (is_held w n) _ (λ held. let it = h (held_judged n held) in ap (some_passes (leaves_no_answer settings eqd)) it.there ∙ it.fits)
    not_delay m h = refl

    not_early : (m : Down) → KeepsRules s m → breaks_early w m ≡ false
    not_early (AssignAlloc n a true) h = not_unranged n h.0
    not_early (AssignAlloc n a false) h = not_unranged n h.0
    not_early (Popup n) h = and_none (not (n == 255)) (is_unranged w n) (λ other. not_unranged n (h (λ same. false≢true (sym (known (n == 255) other) ∙ eq-eqb n 255 same))))
    not_early m h = refl

    not_shared : (m : Down) → KeepsRules s m → breaks_shared w m ≡ false
    not_shared (AssignAlloc n a true) h = by_owner (get w.seen.alloc a) refl
      where
        by_owner : (o : Option ℕ) → get w.seen.alloc a ≡ o → some_passes (λ other. is_judged w other && not (other == n)) o ≡ false
        by_owner None e = refl
        by_owner (Some k) e = and_none (is_judged w k) (not (k == n)) (λ j. ap not (eq-eqb k n (h.2 k ((is.alloc a k (judged k j)).0 e))))
    not_shared (AssignAlloc n a false) h = refl
    not_shared m h = refl

    not_unheld : (m : Down) → KeepsRules s m → breaks_not_held w m ≡ false
    not_unheld (AssignAlloc n a true) h = refl
    not_unheld (AssignAlloc n a false) h =
        and_none (is_held w n) _ (λ held. ap (λ o. not (some_passes (λ other. other == n) o)) ((is.alloc a n (held_judged n held)).1 h.1) ∙ ap not (eq-eqb n n refl))
    not_unheld m h = refl

    pub message_breaks_none : (m : Down) (ms : List Down) → w.to_come ≡ 0 → KeepsRules s m → (w.midway ≡ false → HaveAsked w.asks (m ∷ ms)) → Owed Answered m → broken_of (message_rules settings w m) ≡ []
    message_breaks_none m ms none h asked answered =
        none_broken (message_rules settings w m)
        (and_none (not (w.to_come == 0)) _ (λ more. absurd (false≢true (sym (known (w.to_come == 0) more) ∙ eq-eqb w.to_come 0 none))), (not_range m h, (not_barred m h, (not_unasked m ms asked, (not_taken m h, (not_renumbered m h, (not_nobody m h, (not_unheard m answered, (not_delay m answered, (not_early m h, (not_shared m h, (not_unheld m h, tt))))))))))))

  -- ---- the rule of a grant

  -- the grant asks a unit that it may ask
  abbrev pub MayGrant : Grant → Type 0
  MayGrant Search = Unit {0}
  MayGrant (Range n) = IsHeld s n
  MayGrant (Poll n) = IsRanged s n

  pub grant_breaks_none : (g : Grant) → MayGrant g → breaks_grant w g ≡ false
  grant_breaks_none Search h = refl
  grant_breaks_none (Range n) h = not_nobodys n h
  grant_breaks_none (Poll n) h = or_none (is_nobodys w n) (is_unranged w n) (not_nobodys n h.0) (not_unranged n h)
