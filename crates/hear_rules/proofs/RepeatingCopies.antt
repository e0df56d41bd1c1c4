-- What changes nothing of the copies: a message that needn't be said three times, but for the line of what is overdue,
-- and a further copy behind the third one.
use Rattle.std.proofs.Common.{◌≡◌, ℕ, ◌+◌, ◌≤◌, Bool, true, false, cond, not, Some, ◌⊎◌, inl, inr, ◌↔◌, refl, sym, ap, subst, ◌∙◌, arith, nat_lt}
use mathlib.Core.Path.{fun_ext}
use Rattle.std.proofs.lemmas.Bool.{false≢true, lt-ltb, ltb-true}
use Rattle.gp_ploam.specs.declared.message.Down.{Down}
use Rattle.gp_observer.specs.Heard.{Heard, HeardDown}
use Rattle.gp_observer.specs.Watch.{same_message}
use Rattle.gp_observer.proofs.Copies.{message_same}
use Rattle.hear_rules.specs.declared.rule.Verdict.{Verdict}
use Rattle.hear_rules.specs.declared.rule.Verdict.TheVariants.{Broken, NotJudged}
use Rattle.hear_rules.specs.Copies.{Subject, OfNothing, OfHolder, OfDelay, OfAlloc, OfSerial, OfAllOnus, OfAllSerials, subject_of, same_subject, ends, Sending, Cut, Silent, Once, Twice, Said, Sendings, is_late, sending_after, is_another, ended_where, ended_by, sendings_put, sendings_after, sendings_heard, is_overdue, cut_short, ended, copies_with, copies_heard, copies}
use Rattle.hear_rules.specs.Facts.{Sure, No, sure}
use Rattle.hear_rules.specs.Laws.{OutsideCutsNothing, IsOver, IsApart, FurtherCutsNothing}
use Rattle.hear_rules.proofs.Repeating.{pick, skip}
use Rattle.hear_rules.proofs.SendingCopies.{itself, one_subject}

unjudged : ◌≡◌ {A = Verdict} NotJudged Broken → ⊥
unjudged e = cc

module _ (now later : ℕ) (low : now ≤ later) where
  -- what is overdue stays so
  pub still : (at : ℕ) → nat_lt (at + 800) now ≡ true → nat_lt (at + 800) later ≡ true
  still at e = let past = ltb-true (at + 800) now e in lt-ltb (at + 800) later (omega (arith, past, low))

  -- broken by the time that has gone by, or later
  found_first : (x : Sending) (w : Verdict) → (cond (is_overdue x now) Broken NotJudged ≡ Broken) ⊎ (cond (is_overdue x later) Broken w ≡ Broken) → cond (is_overdue x later) Broken w ≡ Broken
  found_first x w (inr e) = e
  found_first Cut w (inl e) = absurd (unjudged e)
  found_first Silent w (inl e) = absurd (unjudged e)
  found_first (Once l at) w (inl h) = by_now (is_late at now) refl h
    where
      by_now : (b : Bool) → is_late at now ≡ b → cond b Broken NotJudged ≡ Broken → cond (is_late at later) Broken w ≡ Broken
      by_now true e g = ap (λ c. cond c Broken w) (still at e)
      by_now false e g = absurd (unjudged g)
  found_first (Twice l at) w (inl h) = by_now (is_late at now) refl h
    where
      by_now : (b : Bool) → is_late at now ≡ b → cond b Broken NotJudged ≡ Broken → cond (is_late at later) Broken w ≡ Broken
      by_now true e g = ap (λ c. cond c Broken w) (still at e)
      by_now false e g = absurd (unjudged g)
  found_first (Said l) w (inl e) = absurd (unjudged e)

  module _ (s : Sendings) (m : Down) (is : subject_of m ≡ OfNothing) where
    -- no subject is its own, or ended by it
    with_none : (v : Subject) → (same_subject v OfNothing ≡ false) → copies_with s m v ≡ NotJudged
    with_none v other =
        ap (λ (u : Subject). cond (same_subject v u) (cut_short (s v) m) (cond (ends u v) (ended (is_another (s u) m) (s v)) NotJudged)) is
        ∙ ap (λ b. cond b (cut_short (s v) m) NotJudged) other

    kept : sendings_after s now m ≡ s
    kept = ap (λ (u : Subject). sendings_put s (is_another (s u) m) u (sending_after (s u) now m)) is

    of_subject : (heard : Heard) (v : Subject) → same_subject v OfNothing ≡ false
        → ((cond (is_overdue (s v) now) Broken (copies_with s m v) ≡ Broken) ⊎ (cond (is_overdue (sendings_after s now m v) later) Broken (copies_heard (sendings_after s now m) heard v) ≡ Broken))
        ↔ (cond (is_overdue (s v) later) Broken (copies_heard s heard v) ≡ Broken)
    of_subject heard v other =
        subst (λ (w : Verdict). ((cond (is_overdue (s v) now) Broken w ≡ Broken) ⊎ (cond (is_overdue (sendings_after s now m v) later) Broken (copies_heard (sendings_after s now m) heard v) ≡ Broken)) ↔ (cond (is_overdue (s v) later) Broken (copies_heard s heard v) ≡ Broken)) (sym (with_none v other))
        (subst (λ (r : Sendings). ((cond (is_overdue (s v) now) Broken NotJudged ≡ Broken) ⊎ (cond (is_overdue (r v) later) Broken (copies_heard r heard v) ≡ Broken)) ↔ (cond (is_overdue (s v) later) Broken (copies_heard s heard v) ≡ Broken)) (sym kept)
        (found_first (s v) (copies_heard s heard v), λ e. inr e))

    nothing : (x y : Verdict) → x ≡ NotJudged → y ≡ NotJudged → (x ≡ Broken) ⊎ (y ≡ Broken) → NotJudged ≡ Broken
    nothing x y p q (inl e) = sym p ∙ e
    nothing x y p q (inr e) = sym q ∙ e

    found : (heard : Heard) (v : Subject) → ((copies s now (HeardDown (Some m)) v ≡ Broken) ⊎ (copies (sendings_heard s now (HeardDown (Some m))) later heard v ≡ Broken)) ↔ (copies s later heard v ≡ Broken)
    found heard OfNothing = (nothing NotJudged NotJudged refl refl, λ e. inl e)
    found heard (OfHolder n) = of_subject heard (OfHolder n) refl
    found heard (OfDelay n) = of_subject heard (OfDelay n) refl
    found heard (OfAlloc n a) = of_subject heard (OfAlloc n a) refl
    found heard (OfSerial t) = of_subject heard (OfSerial t) refl
    found heard OfAllOnus = of_subject heard OfAllOnus refl
    found heard OfAllSerials = of_subject heard OfAllSerials refl

    same : (heard : Heard) → sendings_heard (sendings_heard s now (HeardDown (Some m))) later heard ≡ sendings_heard s later heard
    same heard = ap (λ (r : Sendings). sendings_heard r later heard) kept

pub outside_cuts_nothing : OutsideCutsNothing
outside_cuts_nothing s now later m heard is low = record { same = same now later low s m is heard; found = found now later low s m is heard }

-- ---- a message whose third copy came

-- what is put about this subject, and what it leaves of the others
module _ (s : Sendings) (another : Sure) (x : Sending) where
  put_own : (u : Subject) → same_subject u OfNothing ≡ false → sendings_put s another u x u ≡ x
  put_own OfNothing other = absurd (false≢true (sym other))
  put_own (OfHolder n) other = pick (same_subject (OfHolder n) (OfHolder n)) _ _ (itself (OfHolder n))
  put_own (OfDelay n) other = pick (same_subject (OfDelay n) (OfDelay n)) _ _ (itself (OfDelay n))
  put_own (OfAlloc n a) other = pick (same_subject (OfAlloc n a) (OfAlloc n a)) _ _ (itself (OfAlloc n a))
  put_own (OfSerial t) other = pick (same_subject (OfSerial t) (OfSerial t)) _ _ (itself (OfSerial t))
  put_own OfAllOnus other = refl
  put_own OfAllSerials other = refl

  pub put_other : (u v : Subject) → same_subject v u ≡ false → sendings_put s another u x v ≡ ended_by another u v (s v)
  put_other OfNothing v other = refl
  put_other (OfHolder n) v other = skip (same_subject v (OfHolder n)) _ _ other
  put_other (OfDelay n) v other = skip (same_subject v (OfDelay n)) _ _ other
  put_other (OfAlloc n a) v other = skip (same_subject v (OfAlloc n a)) _ _ other
  put_other (OfSerial t) v other = skip (same_subject v (OfSerial t)) _ _ other
  put_other OfAllOnus v other = skip (same_subject v OfAllOnus) _ _ other
  put_other OfAllSerials v other = skip (same_subject v OfAllSerials) _ _ other

third : (s : Sendings) (now at : ℕ) (m : Down) → same_subject (subject_of m) OfNothing ≡ false → s (subject_of m) ≡ Twice m at → IsOver (sendings_after s now m) m
third s now at m something twice =
    put_own s (is_another (s (subject_of m)) m) (sending_after (s (subject_of m)) now m) (subject_of m) something ∙ ap (λ x. sending_after x now m) twice ∙ pick (same_message m m) _ _ (message_same m)

stays : (s : Sendings) (now : ℕ) (m o : Down) → IsApart m o → IsOver s m → IsOver (sendings_after s now o) m
stays s now m o apart over =
    put_other s (is_another (s (subject_of o)) o) (sending_after (s (subject_of o)) now o) (subject_of o) (subject_of m) apart.differs
    ∙ ap (λ b. cond b (ended_where (is_another (s (subject_of o)) o) (s (subject_of m))) (s (subject_of m))) apart.stays ∙ over

-- a copy of it isn't another message
not_another : (s : Sendings) (m : Down) → IsOver s m → is_another (s (subject_of m)) m ≡ No
not_another s m over = ap (λ x. is_another x m) over ∙ ap (λ b. sure (not b)) (message_same m)

further_same : (s : Sendings) (now : ℕ) (m : Down) → IsOver s m → sendings_after s now m ≡ s
further_same s now m over = fun_ext (λ v. by_same v (same_subject v (subject_of m)) refl)
  where
    own : sending_after (s (subject_of m)) now m ≡ s (subject_of m)
    own = ap (λ x. sending_after x now m) over ∙ pick (same_message m m) _ _ (message_same m) ∙ sym over

    of_own : (y : Sure) (u : Subject) (x : Sending) → x ≡ s u → sendings_put s y u x u ≡ s u
    of_own y OfNothing x e = refl
    of_own y (OfHolder n) x e = put_own s y x (OfHolder n) refl ∙ e
    of_own y (OfDelay n) x e = put_own s y x (OfDelay n) refl ∙ e
    of_own y (OfAlloc n a) x e = put_own s y x (OfAlloc n a) refl ∙ e
    of_own y (OfSerial t) x e = put_own s y x (OfSerial t) refl ∙ e
    of_own y OfAllOnus x e = put_own s y x OfAllOnus refl ∙ e
    of_own y OfAllSerials x e = put_own s y x OfAllSerials refl ∙ e

    by_ends : (v : Subject) (b : Bool) → cond b (ended_where (is_another (s (subject_of m)) m) (s v)) (s v) ≡ s v
    by_ends v true = ap (λ y. ended_where y (s v)) (not_another s m over)
    by_ends v false = refl

    by_same : (v : Subject) (b : Bool) → same_subject v (subject_of m) ≡ b → sendings_after s now m v ≡ s v
    by_same v true e =
        subst (λ (w : Subject). sendings_put s (is_another (s (subject_of m)) m) (subject_of m) (sending_after (s (subject_of m)) now m) w ≡ s w) (sym (one_subject v (subject_of m) e))
        (of_own (is_another (s (subject_of m)) m) (subject_of m) (sending_after (s (subject_of m)) now m) own)
    by_same v false e = put_other s (is_another (s (subject_of m)) m) (sending_after (s (subject_of m)) now m) (subject_of m) v e ∙ by_ends v (ends (subject_of m) v)

further_none : (s : Sendings) (m : Down) (v : Subject) → IsOver s m → copies_heard s (HeardDown (Some m)) v ≡ Broken → ⊥
further_none s m v over = by_same (same_subject v (subject_of m)) refl
  where
    by_ends : (c : Bool) → cond c (ended (is_another (s (subject_of m)) m) (s v)) NotJudged ≡ Broken → ⊥
    by_ends true h = unjudged (ap (λ y. ended y (s v)) (sym (not_another s m over)) ∙ h)
    by_ends false h = unjudged h

    own : same_subject v (subject_of m) ≡ true → s v ≡ Said m
    own e = ap s (one_subject v (subject_of m) e) ∙ over

    by_same : (b : Bool) → same_subject v (subject_of m) ≡ b → cond b (cut_short (s v) m) (cond (ends (subject_of m) v) (ended (is_another (s (subject_of m)) m) (s v)) NotJudged) ≡ Broken → ⊥
    by_same true e h = unjudged (ap (λ x. cut_short x m) (sym (own e)) ∙ h)
    by_same false e h = by_ends (ends (subject_of m) v) h

pub further_cuts_nothing : FurtherCutsNothing
further_cuts_nothing =
    record {
      third = third;
      stays = stays;
      same = further_same;
      none = further_none;
    }
