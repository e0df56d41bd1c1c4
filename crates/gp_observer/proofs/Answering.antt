-- What a unit answered, until it is ranged.
use Rattle.std.proofs.Common.{◌≡◌, ℕ, ◌+◌, ◌-◌, ◌==◌, Bool, true, false, cond, not, ◌&&◌, ◌||◌, List, [], ◌∷◌, ◌++◌, Option, None, Some, inl, inr, refl, sym, ap, subst, ◌∙◌, arith}
use Rattle.std.specs.Prelude.{nat_le}
use Rattle.std.specs.Ordering.{nat_cmp, eq_by_cmp}
use Rattle.std.specs.Cmp.{nat_cmp_total}
use Rattle.std.specs.FinMap.{FinMap, get, insert}
use Rattle.std.specs.FinSet.{contains, contains-insert}
use Rattle.std.specs.FinSet as finset
use Rattle.std.proofs.lemmas.Bool.{cases_eq, false≢true, le-leb, eq-eqb}
use Rattle.gp_ploam.specs.declared.message.Serial.{Serial}
use Rattle.gp_ploam.specs.declared.message.Down.{Down}
use Rattle.gp_ploam.specs.declared.message.Down.TheVariants.{AssignOnu, RangingTime, Deactivate, DisableSerial, AssignAlloc, Popup}
use Rattle.gp_observer.specs.Observer.{Observed, is_of, is_unit_number, drops, units_without, popped_up, observed_after, observed_after_all}
use Rattle.gp_observer.specs.Watch.{Watch, Answers, answers_of, has_room_for, with_answer, serial_heard}
use Rattle.gp_observer.specs.Rules.{Settings, leaves_no_answer}
use Rattle.gp_observer.proofs.Listed.{put_same, put_other, dropped_at}
use Rattle.gp_observer.proofs.Numbers.{in_put_same}

-- ---- who is not moved

-- the messages leave the ONU-ID to who holds it
abbrev pub Unmoved : Observed → ℕ → List Down → Type 0
Unmoved s n [] = Unit {0}
Unmoved s n (m ∷ ms) = (drops s m n ≡ false) × Unmoved (observed_after s m) n ms

pub unmoved_both : (s : Observed) (n : ℕ) (ms ns : List Down) → Unmoved s n ms → Unmoved (observed_after_all s ms) n ns → Unmoved s n (ms ++ ns)
unmoved_both s n [] ns h k = k
unmoved_both s n (m ∷ ms) ns h k = (h.0, unmoved_both (observed_after s m) n ms ns h.1 k)

or_false : (b c : Bool) → (b || c) ≡ false → b ≡ false
or_false true c h = h
or_false false c h = refl

-- who holds it is known as before
pub holder_unmoved : (s : Observed) (m : Down) (n : ℕ) → drops s m n ≡ false → get (observed_after s m).holder n ≡ get s.holder n
holder_unmoved s (AssignOnu k t) n h = by_low (is_unit_number k) refl
  where
    left : Observed
    left = units_without s (drops s (AssignOnu k t))

    kept : get left.holder n ≡ get s.holder n
    kept = dropped_at s.holder (drops s (AssignOnu k t)) n ∙ ap (λ b. cond b None (get s.holder n)) h

    by_low : (b : Bool) → is_unit_number k ≡ b → get (cond b (record left { holder = insert left.holder k t }) left).holder n ≡ get s.holder n
    by_low true low = put_other left.holder k t n (λ same. false≢true (sym (or_false (n == k) (is_of s t n) (sym (ap (λ b. b && (n == k || is_of s t n)) low) ∙ h)) ∙ eq-eqb n k same)) ∙ kept
    by_low false high = kept
holder_unmoved s (Deactivate k) n h = dropped_at s.holder (drops s (Deactivate k)) n ∙ ap (λ b. cond b None (get s.holder n)) h
holder_unmoved s (DisableSerial t) n h = dropped_at s.holder (drops s (DisableSerial t)) n ∙ ap (λ b. cond b None (get s.holder n)) h
holder_unmoved s (AssignAlloc k a true) n h = refl
holder_unmoved s (AssignAlloc k a false) n h = refl
holder_unmoved s (Popup k) n h = by_all (k == 255)
  where
    by_all : (b : Bool) → get (popped_up s b).holder n ≡ get s.holder n
    by_all true = refl
    by_all false = refl
holder_unmoved s _ n h = refl

pub holders_unmoved : (s : Observed) (ms : List Down) (n : ℕ) → Unmoved s n ms → get (observed_after_all s ms).holder n ≡ get s.holder n
holders_unmoved s [] n h = refl
holders_unmoved s (m ∷ ms) n h = holders_unmoved (observed_after s m) ms n h.1 ∙ holder_unmoved s m n h.0

-- ---- what is owed to who answered

-- a Ranging_Time is owed where this is true of its ONU-ID and its delay
abbrev pub Owed : (ℕ → ℕ → Type 0) → Down → Type 0
Owed Ok (RangingTime n eqd) = Ok n eqd
Owed Ok m = Unit {0}

-- and nothing that is owed before it moves its unit
abbrev pub AreOwed : (ℕ → ℕ → Type 0) → Observed → List Down → Type 0
AreOwed Ok s [] = Unit {0}
AreOwed Ok s (m ∷ ms) = Owed Ok m × AreOwed (λ n eqd. Ok n eqd × (drops s m n ≡ false)) (observed_after s m) ms

pub owed_weaker : (Ok Good : ℕ → ℕ → Type 0) (m : Down) → ((n eqd : ℕ) → Ok n eqd → Good n eqd) → Owed Ok m → Owed Good m
owed_weaker Ok Good (RangingTime n eqd) weaker h = weaker n eqd h
owed_weaker Ok Good m weaker h = tt

pub are_owed_weaker : (Ok Good : ℕ → ℕ → Type 0) (s : Observed) (ms : List Down) → ((n eqd : ℕ) → Ok n eqd → Good n eqd) → AreOwed Ok s ms → AreOwed Good s ms
are_owed_weaker Ok Good s [] weaker h = tt
are_owed_weaker Ok Good s (m ∷ ms) weaker h =
    (owed_weaker Ok Good m weaker h.0, are_owed_weaker (λ n eqd. Ok n eqd × (drops s m n ≡ false)) (λ n eqd. Good n eqd × (drops s m n ≡ false)) (observed_after s m) ms (λ n eqd k. (weaker n eqd k.0, k.1)) h.1)

pub are_owed_both : (Ok : ℕ → ℕ → Type 0) (s : Observed) (ms ns : List Down) → AreOwed Ok s ms → AreOwed (λ n eqd. Ok n eqd × Unmoved s n ms) (observed_after_all s ms) ns → AreOwed Ok s (ms ++ ns)
are_owed_both Ok s [] ns h k = are_owed_weaker (λ n eqd. Ok n eqd × Unmoved s n []) Ok s ns (λ n eqd x. x.0) k
are_owed_both Ok s (m ∷ ms) ns h k = (
  h.0,
  are_owed_both (λ n eqd. Ok n eqd × (drops s m n ≡ false)) (observed_after s m) ms ns h.1
      (are_owed_weaker (λ n eqd. Ok n eqd × Unmoved s n (m ∷ ms)) (λ n eqd. (Ok n eqd × (drops s m n ≡ false)) × Unmoved (observed_after s m) n ms) (observed_after_all s (m ∷ ms)) ns
      (λ n eqd x. ((x.0, x.1.0), x.1.1)) k),
)

-- ---- what answers leave

-- an answer had the delay that this equalization delay leaves, or not all delays are known
pub record HasAnswered (settings : Settings) (answers : FinMap nat_cmp Answers) (n eqd : ℕ) : Type 0 where
  pub its : Answers
  pub there : get answers n ≡ Some its
  pub fits : leaves_no_answer settings eqd its ≡ false

and_not : (b c d : Bool) → (c ≡ true → d ≡ true) → (b && not c) ≡ false → (b && not d) ≡ false
and_not true true d f h = ap not (f refl)
and_not true false d f h = absurd (false≢true (sym h))
and_not false c d f h = refl

or_true : (b c : Bool) → c ≡ true → (b || c) ≡ true
or_true true c h = refl
or_true false c h = h

and_then : (b c d : Bool) → (c ≡ true → d ≡ true) → (b && c) ≡ true → (b && d) ≡ true
and_then true c d f h = f h
and_then false c d f h = absurd (false≢true h)

module _ (settings : Settings) (eqd : ℕ) (its : Answers) where
  -- more answers leave no less
  pub still_fits : (delay : Option ℕ) → leaves_no_answer settings eqd its ≡ false → leaves_no_answer settings eqd (with_answer its delay) ≡ false
  still_fits None h = refl
  still_fits (Some d) h = by_room (has_room_for its d)
    where
      by_room : (b : Bool) → leaves_no_answer settings eqd (cond b (record its { delays = finset.insert its.delays d }) (record its { all = false })) ≡ false
      by_room true =
          and_not its.all (nat_le eqd settings.teqd && contains its.delays (settings.teqd - eqd)) (nat_le eqd settings.teqd && contains (finset.insert its.delays d) (settings.teqd - eqd))
          (and_then (nat_le eqd settings.teqd) (contains its.delays (settings.teqd - eqd)) (contains (finset.insert its.delays d) (settings.teqd - eqd))
          (λ e. contains-insert nat_cmp_total its.delays d (settings.teqd - eqd) ∙ or_true (eq_by_cmp nat_cmp (settings.teqd - eqd) d) (contains its.delays (settings.teqd - eqd)) e)) h
      by_room false = refl

  -- the answer that has it does
  pub now_fits : (d : ℕ) → d + eqd ≡ settings.teqd → leaves_no_answer settings eqd (with_answer its (Some d)) ≡ false
  now_fits d sum = by_room (has_room_for its d)
    where
      left : settings.teqd - eqd ≡ d
      left = omega (arith, sum)

      by_room : (b : Bool) → leaves_no_answer settings eqd (cond b (record its { delays = finset.insert its.delays d }) (record its { all = false })) ≡ false
      by_room true =
          and_not its.all true (nat_le eqd settings.teqd && contains (finset.insert its.delays d) (settings.teqd - eqd))
          (λ e. ap (λ b. b && contains (finset.insert its.delays d) (settings.teqd - eqd)) (le-leb eqd settings.teqd (omega (arith, sum))) ∙ ap (contains (finset.insert its.delays d)) left ∙ in_put_same its.delays d)
          (none its.all)
        where
          none : (b : Bool) → (b && not true) ≡ false
          none true = refl
          none false = refl
      by_room false = refl

-- one answer more leaves what was answered
pub answered_put : (settings : Settings) (answers : FinMap nat_cmp Answers) (k : ℕ) (delay : Option ℕ) (n eqd : ℕ) → HasAnswered settings answers n eqd
    → HasAnswered settings (insert answers k (with_answer (answers_of (get answers k)) delay)) n eqd
answered_put settings answers k delay n eqd h =
    elim (cases_eq n k) [
      | inl same ↦
          record {
            its = with_answer (answers_of (get answers k)) delay;
            there = ap (get (insert answers k (with_answer (answers_of (get answers k)) delay))) same ∙ put_same answers k (with_answer (answers_of (get answers k)) delay);
            fits = subst (λ (x : Answers). leaves_no_answer settings eqd (with_answer x delay) ≡ false) (sym (ap answers_of (ap (get answers) (sym same) ∙ h.there))) (still_fits settings eqd h.its delay h.fits);
          }
      | inr other ↦ record { its = h.its; there = put_other answers k (with_answer (answers_of (get answers k)) delay) n other ∙ h.there; fits = h.fits }
    ]

-- the unit that holds the ONU-ID answers
pub answered_now : (settings : Settings) (w : Watch) (n : ℕ) (t : Serial) (d eqd : ℕ) → (n == 255) ≡ false → is_of w.seen t n ≡ true → d + eqd ≡ settings.teqd → HasAnswered settings (serial_heard w n t (Some d)).answers n eqd
answered_now settings w n t d eqd low own sum =
    record {
      its = with_answer (answers_of (get w.answers n)) (Some d);
      there = ap (λ (x : Watch). get x.answers n) heard ∙ put_same w.answers n (with_answer (answers_of (get w.answers n)) (Some d));
      fits = now_fits settings eqd (answers_of (get w.answers n)) d sum;
    }
  where
    heard : serial_heard w n t (Some d) ≡ record w { answers = insert w.answers n (with_answer (answers_of (get w.answers n)) (Some d)) }
    heard =
        ap (λ b. cond b (record w { asks = (serial_heard w 255 t (Some d)).asks }) (cond (is_of w.seen t n) (record w { answers = insert w.answers n (with_answer (answers_of (get w.answers n)) (Some d)) }) w)) low
        ∙ ap (λ b. cond b (record w { answers = insert w.answers n (with_answer (answers_of (get w.answers n)) (Some d)) }) w) own
