-- The queue of `copies` forgets nobody.
use Rattle.std.proofs.Common.{◌≡◌, ℕ, ◌≤◌, Bool, true, false, cond, not, ◌&&◌, ◌||◌, List, [], ◌∷◌, ◌++◌, None, Some, refl, sym, ap, subst, ◌∙◌}
use Rattle.std.proofs.lemmas.Bool.{false≢true}
use Rattle.gp_ploam.specs.declared.message.Down.{Down}
use Rattle.gp_observer.specs.Heard.{Heard, HeardDown, HeardUp, HeardGrant}
use Rattle.hear_rules.specs.declared.rule.Verdict.TheVariants.{Broken}
use Rattle.hear_rules.specs.Facts.{Sure, Yes, No, Unsure}
use Rattle.hear_rules.specs.Rules.{Settings}
use Rattle.hear_rules.specs.Copies.{Subject, OfNothing, OfHolder, OfDelay, OfAlloc, OfSerial, OfAllOnus, OfAllSerials, subject_of, same_subject, ends, Sending, Cut, Silent, Once, Twice, Said, Sendings, is_late, sending_after, is_another, ended_where, sendings_heard, is_open, is_overdue, overdue, copies_heard, copies}
use Rattle.hear_rules.specs.Notes.{Notes, leaves, still_waiting, waits, waiting_with, waiting_after, late_first, judged_with, judged_subjects, notes_after}
use Rattle.hear_rules.specs.Waiting.{AllWait, NoneTwice, WaitingForgetsNobody}
use Rattle.hear_rules.proofs.SendingCopies.{itself, one_subject}
use Rattle.hear_rules.proofs.RepeatingCopies.{still, put_other}

-- ---- who waits

waits_behind : (xs ys : List Subject) (v : Subject) → waits xs v ≡ true → waits (xs ++ ys) v ≡ true
waits_behind [] ys v h = absurd (false≢true h)
waits_behind (x ∷ xs) ys v h = by_first (same_subject x v) (λ e. waits_behind xs ys v e) h
  where
    by_first : (b : Bool) → (waits xs v ≡ true → waits (xs ++ ys) v ≡ true) → (b || waits xs v) ≡ true → (b || waits (xs ++ ys) v) ≡ true
    by_first true later e = refl
    by_first false later e = later e

waits_last : (xs : List Subject) (v : Subject) → waits (xs ++ v ∷ []) v ≡ true
waits_last [] v = ap (λ b. b || false) (itself v)
waits_last (x ∷ xs) v = by_first (same_subject x v) (waits_last xs v)
  where
    by_first : (b : Bool) → waits (xs ++ v ∷ []) v ≡ true → (b || waits (xs ++ v ∷ []) v) ≡ true
    by_first true later = refl
    by_first false later = later

module _ (s : Sendings) (w : List Subject) where
  waits_more : (u v : Subject) → waits w v ≡ true → waits (waiting_with s w u) v ≡ true
  waits_more OfNothing v h = h
  waits_more (OfHolder n) v h = waits_behind w _ v h
  waits_more (OfDelay n) v h = waits_behind w _ v h
  waits_more (OfAlloc n a) v h = waits_behind w _ v h
  waits_more (OfSerial t) v h = waits_behind w _ v h
  waits_more OfAllOnus v h = waits_behind w _ v h
  waits_more OfAllSerials v h = waits_behind w _ v h

  -- who is opened goes to the end, unless it is there
  waits_now : (u : Subject) → is_open (s u) ≡ true → waits (w ++ cond (is_open (s u) && not (waits w u)) (u ∷ []) []) u ≡ true
  waits_now u opened = subst (λ b. waits (w ++ cond (b && not (waits w u)) (u ∷ []) []) u ≡ true) (sym opened) (by_there (waits w u) refl)
    where
      by_there : (b : Bool) → waits w u ≡ b → waits (w ++ cond (not b) (u ∷ []) []) u ≡ true
      by_there true e = waits_behind w [] u e
      by_there false e = waits_last w u

  waits_own : (u : Subject) → same_subject u OfNothing ≡ false → is_open (s u) ≡ true → waits (waiting_with s w u) u ≡ true
  waits_own OfNothing other opened = absurd (false≢true (sym other))
  waits_own (OfHolder n) other opened = waits_now (OfHolder n) opened
  waits_own (OfDelay n) other opened = waits_now (OfDelay n) opened
  waits_own (OfAlloc n a) other opened = waits_now (OfAlloc n a) opened
  waits_own (OfSerial t) other opened = waits_now (OfSerial t) opened
  waits_own OfAllOnus other opened = waits_now OfAllOnus opened
  waits_own OfAllSerials other opened = waits_now OfAllSerials opened

-- ---- who stays

stays_open : (b c : Bool) → b ≡ true → c ≡ false → (not b || c) ≡ false
stays_open b c p q = ap (λ x. not x || c) p ∙ q

still_there : (s : Sendings) (now : ℕ) (w : List Subject) (v : Subject) → waits w v ≡ true → is_open (s v) ≡ true → overdue s now v ≡ false → waits (still_waiting s now w) v ≡ true
still_there s now [] v h opened timely = h
still_there s now (x ∷ xs) v h opened timely = by_leaves (leaves s now x) refl
  where
    by_same : (b : Bool) → same_subject x v ≡ b → (b || waits xs v) ≡ true → leaves s now x ≡ true → waits xs v ≡ true
    by_same true same e gone = absurd (false≢true (sym (ap (leaves s now) (one_subject x v same) ∙ stays_open (is_open (s v)) (overdue s now v) opened timely) ∙ gone))
    by_same false same e gone = e

    by_leaves : (b : Bool) → leaves s now x ≡ b → waits (cond b xs (x ∷ xs)) v ≡ true
    by_leaves true gone = by_same (same_subject x v) refl h gone
    by_leaves false gone = h

-- who isn't overdue wasn't before
module _ (before now : ℕ) (low : before ≤ now) where
  not_late : (at : ℕ) → is_late at now ≡ false → is_late at before ≡ false
  not_late at h = by_late (is_late at before) refl
    where
      by_late : (b : Bool) → is_late at before ≡ b → is_late at before ≡ false
      by_late true e = absurd (false≢true (sym h ∙ still before now low at e))
      by_late false e = e

  not_overdue : (x : Sending) → is_overdue x now ≡ false → is_overdue x before ≡ false
  not_overdue Cut h = refl
  not_overdue Silent h = refl
  not_overdue (Once l at) h = not_late at h
  not_overdue (Twice l at) h = not_late at h
  not_overdue (Said l) h = refl

  earlier : (s : Sendings) (v : Subject) → overdue s now v ≡ false → overdue s before v ≡ false
  earlier s OfNothing h = refl
  earlier s (OfHolder n) h = not_overdue (s (OfHolder n)) h
  earlier s (OfDelay n) h = not_overdue (s (OfDelay n)) h
  earlier s (OfAlloc n a) h = not_overdue (s (OfAlloc n a)) h
  earlier s (OfSerial t) h = not_overdue (s (OfSerial t)) h
  earlier s OfAllOnus h = not_overdue (s OfAllOnus) h
  earlier s OfAllSerials h = not_overdue (s OfAllSerials) h

-- ---- all wait

module _ (notes : Notes) (before now : ℕ) (low : before ≤ now) (h : AllWait notes before) where
  -- of whom nothing was said
  on : (v : Subject) → same_subject v OfNothing ≡ false → is_open (notes.sendings v) ≡ true → overdue notes.sendings now v ≡ false → waits (still_waiting notes.sendings now notes.waiting) v ≡ true
  on v other opened timely = still_there notes.sendings now notes.waiting v (h v other opened (earlier before now low notes.sendings v timely)) opened timely

  -- what another message ended isn't opened
  ended_open : (y : Sure) (b : Bool) (x : Sending) → is_open (cond b (ended_where y x) x) ≡ true → cond b (ended_where y x) x ≡ x
  ended_open Yes true x e = absurd (false≢true e)
  ended_open No true x e = refl
  ended_open Unsure true x e = absurd (false≢true e)
  ended_open y false x e = refl

  overdue_same : (r s : Sendings) (v : Subject) → r v ≡ s v → overdue r now v ≡ overdue s now v
  overdue_same r s OfNothing e = refl
  overdue_same r s (OfHolder n) e = ap (λ x. is_overdue x now) e
  overdue_same r s (OfDelay n) e = ap (λ x. is_overdue x now) e
  overdue_same r s (OfAlloc n a) e = ap (λ x. is_overdue x now) e
  overdue_same r s (OfSerial t) e = ap (λ x. is_overdue x now) e
  overdue_same r s OfAllOnus e = ap (λ x. is_overdue x now) e
  overdue_same r s OfAllSerials e = ap (λ x. is_overdue x now) e

  module _ (m : Down) where
    abbrev then : Sendings
    then = sendings_heard notes.sendings now (HeardDown (Some m))

    after_message : (v : Subject) → same_subject v OfNothing ≡ false → is_open (then v) ≡ true → overdue then now v ≡ false → waits (waiting_with then (still_waiting notes.sendings now notes.waiting) (subject_of m)) v ≡ true
    after_message v other opened timely = by_same (same_subject v (subject_of m)) refl
      where
        by_same : (b : Bool) → same_subject v (subject_of m) ≡ b → waits (waiting_with then (still_waiting notes.sendings now notes.waiting) (subject_of m)) v ≡ true
        by_same true e =
            subst (λ (u : Subject). waits (waiting_with then (still_waiting notes.sendings now notes.waiting) u) v ≡ true) (one_subject v (subject_of m) e)
            (waits_own then (still_waiting notes.sendings now notes.waiting) v other opened)
        by_same false e = waits_more then (still_waiting notes.sendings now notes.waiting) (subject_of m) v (on v other (sym (ap is_open same) ∙ opened) (sym (overdue_same then notes.sendings v same) ∙ timely))
          where
            ended : then v ≡ cond (ends (subject_of m) v) (ended_where (is_another (notes.sendings (subject_of m)) m) (notes.sendings v)) (notes.sendings v)
            ended = put_other notes.sendings (is_another (notes.sendings (subject_of m)) m) (sending_after (notes.sendings (subject_of m)) now m) (subject_of m) v e

            same : then v ≡ notes.sendings v
            same = ended ∙ ended_open (is_another (notes.sendings (subject_of m)) m) (ends (subject_of m) v) (notes.sendings v) (sym (ap is_open ended) ∙ opened)

  all_wait : (settings : Settings) (x : Heard) → AllWait (notes_after settings notes now x) now
  all_wait settings (HeardDown None) v other opened timely = on v other opened timely
  all_wait settings (HeardDown (Some m)) v other opened timely = after_message m v other opened timely
  all_wait settings (HeardUp m delay) v other opened timely = on v other opened timely
  all_wait settings (HeardGrant g) v other opened timely = on v other opened timely

-- ---- once

either_false : (b c : Bool) → (b || c) ≡ false → (b ≡ false) × (c ≡ false)
either_false true c e = absurd (false≢true (sym e))
either_false false c e = (refl, e)

other_way : (u v : Subject) → same_subject u v ≡ false → same_subject v u ≡ false
other_way u v h = by_same (same_subject v u) refl
  where
    by_same : (b : Bool) → same_subject v u ≡ b → same_subject v u ≡ false
    by_same true e = absurd (false≢true (sym h ∙ ap (same_subject u) (one_subject v u e) ∙ itself u))
    by_same false e = e

not_behind : (xs : List Subject) (u x : Subject) → waits xs x ≡ false → same_subject u x ≡ false → waits (xs ++ u ∷ []) x ≡ false
not_behind [] u x h other = ap (λ b. b || false) other
not_behind (y ∷ xs) u x h other = let both = either_false (same_subject y x) (waits xs x) h in ap (λ b. b || waits (xs ++ u ∷ []) x) both.0 ∙ not_behind xs u x both.1 other

none_twice_behind : (xs : List Subject) (u : Subject) → NoneTwice xs → waits xs u ≡ false → NoneTwice (xs ++ u ∷ [])
none_twice_behind [] u h not = (refl, tt)
none_twice_behind (x ∷ xs) u h not =
    let both = either_false (same_subject x u) (waits xs u) not in
    (not_behind xs u x h.0 (other_way x u both.0), none_twice_behind xs u h.1 both.1)

none_twice_nil : (xs : List Subject) → NoneTwice xs → NoneTwice (xs ++ [])
none_twice_nil [] h = tt
none_twice_nil (x ∷ xs) h = (subst (λ b. b ≡ false) (sym (waits_nil xs x)) h.0, none_twice_nil xs h.1)
  where
    waits_nil : (ys : List Subject) (v : Subject) → waits (ys ++ []) v ≡ waits ys v
    waits_nil [] v = refl
    waits_nil (y ∷ ys) v = ap (λ b. same_subject y v || b) (waits_nil ys v)

module _ (s : Sendings) (w : List Subject) (h : NoneTwice w) where
  with_now : (u : Subject) → NoneTwice (w ++ cond (is_open (s u) && not (waits w u)) (u ∷ []) [])
  with_now u = by_open (is_open (s u))
    where
      by_there : (b : Bool) → waits w u ≡ b → NoneTwice (w ++ cond (not b) (u ∷ []) [])
      by_there true e = none_twice_nil w h
      by_there false e = none_twice_behind w u h e

      by_open : (b : Bool) → NoneTwice (w ++ cond (b && not (waits w u)) (u ∷ []) [])
      by_open true = by_there (waits w u) refl
      by_open false = none_twice_nil w h

  with_once : (u : Subject) → NoneTwice (waiting_with s w u)
  with_once OfNothing = h
  with_once (OfHolder n) = with_now (OfHolder n)
  with_once (OfDelay n) = with_now (OfDelay n)
  with_once (OfAlloc n a) = with_now (OfAlloc n a)
  with_once (OfSerial t) = with_now (OfSerial t)
  with_once OfAllOnus = with_now OfAllOnus
  with_once OfAllSerials = with_now OfAllSerials

still_once : (s : Sendings) (now : ℕ) (w : List Subject) → NoneTwice w → NoneTwice (still_waiting s now w)
still_once s now [] h = tt
still_once s now (x ∷ xs) h = by_leaves (leaves s now x)
  where
    by_leaves : (b : Bool) → NoneTwice (cond b xs (x ∷ xs))
    by_leaves true = h.1
    by_leaves false = h

once : (settings : Settings) (notes : Notes) (now : ℕ) (x : Heard) → NoneTwice notes.waiting → NoneTwice (notes_after settings notes now x).waiting
once settings notes now (HeardDown None) h = still_once notes.sendings now notes.waiting h
once settings notes now (HeardDown (Some m)) h = with_once (sendings_heard notes.sendings now (HeardDown (Some m))) (still_waiting notes.sendings now notes.waiting) (still_once notes.sendings now notes.waiting h) (subject_of m)
once settings notes now (HeardUp m delay) h = still_once notes.sendings now notes.waiting h
once settings notes now (HeardGrant g) h = still_once notes.sendings now notes.waiting h

-- ---- who leaves

late_broken : (s : Sendings) (now : ℕ) (x : Heard) (v : Subject) → overdue s now v ≡ true → copies s now x v ≡ Broken
late_broken s now x OfNothing e = absurd (false≢true e)
late_broken s now x (OfHolder n) e = ap (λ b. cond b Broken (copies_heard s x (OfHolder n))) e
late_broken s now x (OfDelay n) e = ap (λ b. cond b Broken (copies_heard s x (OfDelay n))) e
late_broken s now x (OfAlloc n a) e = ap (λ b. cond b Broken (copies_heard s x (OfAlloc n a))) e
late_broken s now x (OfSerial t) e = ap (λ b. cond b Broken (copies_heard s x (OfSerial t))) e
late_broken s now x OfAllOnus e = ap (λ b. cond b Broken (copies_heard s x OfAllOnus)) e
late_broken s now x OfAllSerials e = ap (λ b. cond b Broken (copies_heard s x OfAllSerials)) e

-- who leaves is the first, and overdue
left_late : (s : Sendings) (now : ℕ) (w : List Subject) (v : Subject) → waits w v ≡ true → is_open (s v) ≡ true → waits (still_waiting s now w) v ≡ false → (overdue s now v ≡ true) × (waits (late_first s now w) v ≡ true)
left_late s now [] v h opened gone = absurd (false≢true h)
left_late s now (x ∷ xs) v h opened gone = by_late (overdue s now v) refl
  where
    by_late : (b : Bool) → overdue s now v ≡ b → (overdue s now v ≡ true) × (waits (late_first s now (x ∷ xs)) v ≡ true)
    by_late false e = absurd (false≢true (sym gone ∙ still_there s now (x ∷ xs) v h opened e))
    by_late true e = (e, by_leaves (leaves s now x) refl)
      where
        first_late : same_subject x v ≡ true → waits (late_first s now (x ∷ xs)) v ≡ true
        first_late same = subst (λ b. waits (cond b (x ∷ []) []) v ≡ true) (sym (ap (overdue s now) (one_subject x v same) ∙ e)) (ap (λ b. b || false) same)

        by_same : (b : Bool) → same_subject x v ≡ b → (b || waits xs v) ≡ true → waits xs v ≡ false → waits (late_first s now (x ∷ xs)) v ≡ true
        by_same true same here there = first_late same
        by_same false same here there = absurd (false≢true (sym there ∙ here))

        by_leaves : (b : Bool) → leaves s now x ≡ b → waits (late_first s now (x ∷ xs)) v ≡ true
        by_leaves true leaving = by_same (same_subject x v) refl h (sym (ap (λ b. waits (cond b xs (x ∷ xs)) v) leaving) ∙ gone)
        by_leaves false leaving = absurd (false≢true (sym (sym (ap (λ b. waits (cond b xs (x ∷ xs)) v) leaving) ∙ gone) ∙ h))

-- who doesn't wait behind what is heard didn't before it
not_more : (s : Sendings) (w : List Subject) (x : Heard) (v : Subject) → waits (waiting_after s w x) v ≡ false → waits w v ≡ false
not_more s w x v gone = by_there (waits w v) refl
  where
    more : (y : Heard) → waits w v ≡ true → waits (waiting_after s w y) v ≡ true
    more (HeardDown None) h = h
    more (HeardDown (Some m)) h = waits_more s w (subject_of m) v h
    more (HeardUp m delay) h = h
    more (HeardGrant g) h = h

    by_there : (b : Bool) → waits w v ≡ b → waits w v ≡ false
    by_there true e = absurd (false≢true (sym gone ∙ more x e))
    by_there false e = e

told : (settings : Settings) (notes : Notes) (now : ℕ) (x : Heard) (v : Subject) → waits notes.waiting v ≡ true → is_open (notes.sendings v) ≡ true → waits (notes_after settings notes now x).waiting v ≡ false
    → (copies notes.sendings now x v ≡ Broken) × (waits (judged_subjects notes.sendings notes.waiting now x) v ≡ true)
told settings notes now x v h opened gone =
    let late = left_late notes.sendings now notes.waiting v h opened (not_more (sendings_heard notes.sendings now x) (still_waiting notes.sendings now notes.waiting) x v gone) in
    (late_broken notes.sendings now x v late.0, waits_behind (late_first notes.sendings now notes.waiting) (judged_with (still_waiting notes.sendings now notes.waiting) x) v late.1)

pub waiting_forgets_nobody : WaitingForgetsNobody
waiting_forgets_nobody =
    record {
      whole = λ now. (λ v other opened timely. absurd (false≢true opened), tt);
      midway = λ begun now. (λ v other opened timely. absurd (false≢true opened), tt);
      all = λ settings notes before now x low h. all_wait notes before now low h settings x;
      once = once;
      told = told;
    }
