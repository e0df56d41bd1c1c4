-- A repetition stays one behind a message that says nothing of what it is about.
use Rattle.std.proofs.Common.{◌≡◌, ℕ, ◌==◌, Bool, true, false, cond, ◌&&◌, ◌||◌, refl, sym, ap, subst, ◌∙◌, eq-eqb}
use mathlib.Core.Path.{fun_ext}
use Rattle.std.proofs.lemmas.Bool.{false≢true, eqb-true, ne_eqb}
use Rattle.gp_ploam.specs.declared.message.Serial.{Serial}
use Rattle.gp_ploam.specs.declared.message.Down.{Down}
use Rattle.gp_ploam.specs.declared.message.Down.TheVariants.{UpstreamOverhead, AssignOnu, RangingTime, Deactivate, DisableSerial, EnableSerial, EnableAll, AssignAlloc, NoMessage, Popup, Other}
use Rattle.gp_ploam.specs.Serials.{same_serial}
use Rattle.gp_ploam.proofs.Serials.{same_serial-true, same_serial-itself}
use Rattle.gp_observer.specs.Observer.{is_unit_number}
use Rattle.hear_rules.specs.Facts.{Fact, Unknown, Nothing, Is, Sure, Yes, No, Unsure}
use Rattle.hear_rules.specs.Known.{Number, Unheard, Nobodys, Of, Owner, Unclear, Free, Has, Known, left_by, lost_by, lost_with, given_up, freed, still_free, owner_after, owner_given, owner_told, dropped, ranged, after_assign, after_drop, after_drop_all, after_pop_up_all, after_adjust, after_message}
use Rattle.hear_rules.specs.Laws.{IsRepetition, names_onu, names_serial, StaysRepetition}
use Rattle.hear_rules.proofs.Repeating.{pick, skip}

-- ---- tests

neither : (b c : Bool) → (b || c) ≡ false → (b ≡ false) × (c ≡ false)
neither true c e = absurd (false≢true (sym e))
neither false c e = (refl, e)

other_way : (m n : ℕ) → (m == n) ≡ false → (n == m) ≡ false
other_way m n e = ne_eqb n m (λ same. false≢true (sym e ∙ eq-eqb m n (sym same)))

-- ---- what stays of an ONU-ID that isn't named

module _ (Stays : Number → Type 0) (left : (y : Number) (t : Serial) → Stays y → Stays (left_by y t)) (k : Known) (n : ℕ) (is : Stays (k.numbers n)) where
  number_stays : (x : Down) → names_onu x n ≡ false → Stays ((after_message k x).numbers n)
  number_stays (UpstreamOverhead burst) e = is
  number_stays (AssignOnu m t) e = by_low (is_unit_number m)
    where
      by_low : (b : Bool) → Stays ((cond b (after_assign k m t) k).numbers n)
      by_low true = subst Stays (sym (skip (n == m) _ _ (other_way m n e))) (left (k.numbers n) t is)
      by_low false = is
  number_stays (RangingTime m f) e = subst Stays (sym (skip (n == m) _ _ (other_way m n e))) is
  number_stays (Deactivate m) e =
      let both = neither (m == 255) (m == n) e in
      subst (λ b. Stays ((cond b (after_drop_all k) (after_drop k m)).numbers n)) (sym both.0) (subst Stays (sym (skip (n == m) _ _ (other_way m n both.1))) is)
  number_stays (DisableSerial t) e = left (k.numbers n) t is
  number_stays (EnableSerial t) e = is
  number_stays EnableAll e = is
  number_stays (AssignAlloc m a keep) e = is
  number_stays NoMessage e = is
  number_stays (Popup m) e = let both = neither (m == 255) (m == n) e in subst (λ b. Stays ((cond b (after_pop_up_all k) k).numbers n)) (sym both.0) is
  number_stays (Other id m body) e = by_id (id == 23) e
    where
      by_id : (b : Bool) → (b && (m == 255 || m == n)) ≡ false → Stays ((cond b (cond (m == 255) (after_pop_up_all k) (after_adjust k m)) k).numbers n)
      by_id false g = is
      by_id true g =
          let both = neither (m == 255) (m == n) g in
          subst (λ b. Stays ((cond b (after_pop_up_all k) (after_adjust k m)).numbers n)) (sym both.0) (subst Stays (sym (skip (n == m) _ _ (other_way m n both.1))) is)

-- ---- Ranging_Time

left_ranged : (e : ℕ) (y : Number) (t : Serial) → ranged y e ≡ y → ranged (left_by y t) e ≡ left_by y t
left_ranged e Unheard t h = refl
left_ranged e Nobodys t h = refl
left_ranged e (Of u d a) t h = by_same (same_serial t u)
  where
    by_same : (b : Bool) → ranged (cond b Nobodys (Of u d a)) e ≡ cond b Nobodys (Of u d a)
    by_same true = refl
    by_same false = h

range_stays : (k : Known) (x : Down) (n e : ℕ) → names_onu x n ≡ false → IsRepetition k (RangingTime n e) → IsRepetition (after_message k x) (RangingTime n e)
range_stays k x n e apart h = λ i. record (after_message k x) { numbers = fun_ext (λ j. by_own j (j == n) refl) i }
  where
    was : ranged (k.numbers n) e ≡ k.numbers n
    was = sym (pick (n == n) _ _ (eq-eqb n n refl)) ∙ ap (λ (z : Known). z.numbers n) h

    now : ranged ((after_message k x).numbers n) e ≡ (after_message k x).numbers n
    now = number_stays (λ y. ranged y e ≡ y) (left_ranged e) k n was x apart

    by_own : (j : ℕ) (b : Bool) → (j == n) ≡ b → cond b (ranged ((after_message k x).numbers j) e) ((after_message k x).numbers j) ≡ (after_message k x).numbers j
    by_own j true own = subst (λ m. ranged ((after_message k x).numbers m) e ≡ (after_message k x).numbers m) (sym (eqb-true j n own)) now
    by_own j false other = refl

-- ---- Deactivate_ONU-ID

left_dropped : (y : Number) (t : Serial) → dropped y ≡ y → dropped (left_by y t) ≡ left_by y t
left_dropped Unheard t h = h
left_dropped Nobodys t h = refl
left_dropped (Of u d a) t h = absurd (no h)
  where
    no : Nobodys ≡ Of u d a → ⊥
    no g = cc

-- who holds another keeps it, or has none
given_up_both : (f : Fact ℕ) (m n : ℕ) → given_up f n ≡ f → given_up (given_up f m) n ≡ given_up f m
given_up_both Unknown m n h = refl
given_up_both Nothing m n h = refl
given_up_both (Is j) m n h = by_it (j == m)
  where
    by_it : (b : Bool) → given_up (cond b Nothing (Is j)) n ≡ cond b Nothing (Is j)
    by_it true = refl
    by_it false = h

module _ (k : Known) (n : ℕ) where
  module _ (h : (t : Serial) → given_up (k.holds t) n ≡ k.holds t) where
    holds_stay : (x : Down) → names_onu x n ≡ false → (t : Serial) → given_up ((after_message k x).holds t) n ≡ (after_message k x).holds t
    holds_stay (AssignOnu m s) e t = by_low (is_unit_number m)
      where
        by_same : (b : Bool) → given_up (cond b (Is m) (given_up (k.holds t) m)) n ≡ cond b (Is m) (given_up (k.holds t) m)
        by_same true = skip (m == n) _ _ e
        by_same false = given_up_both (k.holds t) m n (h t)

        by_low : (b : Bool) → given_up ((cond b (after_assign k m s) k).holds t) n ≡ (cond b (after_assign k m s) k).holds t
        by_low true = by_same (same_serial t s)
        by_low false = h t
    holds_stay (Deactivate m) e t = by_all (m == 255)
      where
        by_all : (b : Bool) → given_up ((cond b (after_drop_all k) (after_drop k m)).holds t) n ≡ (cond b (after_drop_all k) (after_drop k m)).holds t
        by_all true = refl
        by_all false = given_up_both (k.holds t) m n (h t)
    holds_stay (DisableSerial s) e t = by_same (same_serial t s)
      where
        by_same : (b : Bool) → given_up (cond b Nothing (k.holds t)) n ≡ cond b Nothing (k.holds t)
        by_same true = refl
        by_same false = h t
    holds_stay (UpstreamOverhead burst) e t = h t
    holds_stay (RangingTime m f) e t = h t
    holds_stay (EnableSerial s) e t = h t
    holds_stay EnableAll e t = h t
    holds_stay (AssignAlloc m a keep) e t = h t
    holds_stay NoMessage e t = h t
    holds_stay (Popup m) e t = by_all (m == 255)
      where
        by_all : (b : Bool) → given_up ((cond b (after_pop_up_all k) k).holds t) n ≡ (cond b (after_pop_up_all k) k).holds t
        by_all true = h t
        by_all false = h t
    holds_stay (Other id m body) e t = by_test (id == 23) (m == 255)
      where
        by_test : (b c : Bool) → given_up ((cond b (cond c (after_pop_up_all k) (after_adjust k m)) k).holds t) n ≡ (cond b (cond c (after_pop_up_all k) (after_adjust k m)) k).holds t
        by_test true true = h t
        by_test true false = h t
        by_test false c = h t

  -- an Alloc-ID isn't this ONU-ID's
  abbrev NotIts : Owner → Type 0
  NotIts (Has j l) = (j == n) ≡ false
  NotIts owner = Unit {0}

  not_its : (o : Owner) → owner_after (λ j. cond (j == n) Yes No) o ≡ o → NotIts o
  not_its Unclear h = tt
  not_its (Free l) h = tt
  not_its (Has j l) h = by_own (j == n) h
    where
      no : Free (Is j) ≡ Has j l → ⊥
      no g = cc

      by_own : (b : Bool) → freed (cond b Yes No) j l ≡ Has j l → b ≡ false
      by_own true g = absurd (no g)
      by_own false g = refl

  its_same : (o : Owner) → NotIts o → owner_after (λ j. cond (j == n) Yes No) o ≡ o
  its_same Unclear h = refl
  its_same (Free Unknown) h = refl
  its_same (Free Nothing) h = refl
  its_same (Free (Is j)) h = by_own (j == n)
    where
      by_own : (b : Bool) → still_free (cond b Yes No) j ≡ Free (Is j)
      by_own true = refl
      by_own false = refl
  its_same (Has j l) h = ap (λ b. freed (cond b Yes No) j l) h

  after_not : (lost : ℕ → Sure) (o : Owner) → NotIts o → NotIts (owner_after lost o)
  after_not lost Unclear h = tt
  after_not lost (Free Unknown) h = tt
  after_not lost (Free Nothing) h = tt
  after_not lost (Free (Is j)) h = by_lost (lost j)
    where
      by_lost : (x : Sure) → NotIts (still_free x j)
      by_lost Yes = tt
      by_lost No = tt
      by_lost Unsure = tt
  after_not lost (Has j l) h = by_lost (lost j)
    where
      by_lost : (x : Sure) → NotIts (freed x j l)
      by_lost Yes = tt
      by_lost No = h
      by_lost Unsure = tt

  module _ (m : ℕ) (other : (m == n) ≡ false) where
    given_not : (o : Owner) → NotIts (owner_given o m)
    given_not Unclear = other
    given_not (Free l) = other
    given_not (Has j l) = by_same (j == m)
      where
        by_same : (b : Bool) → NotIts (cond b (Has m l) (Has m (Is j)))
        by_same true = other
        by_same false = other

    told_not : (y : Number) (o : Owner) (keep : Bool) → NotIts o → NotIts (owner_told y o m keep)
    told_not Unheard o true h = tt
    told_not Nobodys o true h = h
    told_not (Of u d a) o true h = given_not o
    told_not y Unclear false h = tt
    told_not y (Free l) false h = tt
    told_not y (Has j l) false h = by_same (j == m)
      where
        by_same : (b : Bool) → NotIts (cond b (Free (Is m)) (Has j l))
        by_same true = tt
        by_same false = h

  module _ (h : (a : ℕ) → NotIts (k.owners a)) where
    owners_stay : (x : Down) → names_onu x n ≡ false → (a : ℕ) → NotIts ((after_message k x).owners a)
    owners_stay (AssignOnu m s) e a = by_low (is_unit_number m)
      where
        by_low : (b : Bool) → NotIts ((cond b (after_assign k m s) k).owners a)
        by_low true = after_not (lost_with k m s) (k.owners a) (h a)
        by_low false = h a
    owners_stay (Deactivate m) e a = by_all (m == 255)
      where
        by_all : (b : Bool) → NotIts ((cond b (after_drop_all k) (after_drop k m)).owners a)
        by_all true = after_not (λ j. Yes) (k.owners a) (h a)
        by_all false = after_not (λ j. cond (j == m) Yes No) (k.owners a) (h a)
    owners_stay (DisableSerial s) e a = after_not (λ j. lost_by (k.numbers j) s) (k.owners a) (h a)
    owners_stay (AssignAlloc m b keep) e a = by_own (a == b)
      where
        by_own : (c : Bool) → NotIts (cond c (owner_told (k.numbers m) (k.owners a) m keep) (k.owners a))
        by_own true = told_not m e (k.numbers m) (k.owners a) keep (h a)
        by_own false = h a
    owners_stay (UpstreamOverhead burst) e a = h a
    owners_stay (RangingTime m f) e a = h a
    owners_stay (EnableSerial s) e a = h a
    owners_stay EnableAll e a = h a
    owners_stay NoMessage e a = h a
    owners_stay (Popup m) e a = by_all (m == 255)
      where
        by_all : (b : Bool) → NotIts ((cond b (after_pop_up_all k) k).owners a)
        by_all true = h a
        by_all false = h a
    owners_stay (Other id m body) e a = by_test (id == 23) (m == 255)
      where
        by_test : (b c : Bool) → NotIts ((cond b (cond c (after_pop_up_all k) (after_adjust k m)) k).owners a)
        by_test true true = h a
        by_test true false = h a
        by_test false c = h a

drop_stays : (k : Known) (x : Down) (n : ℕ) → names_onu x n ≡ false → (n == 255) ≡ false → IsRepetition k (Deactivate n) → IsRepetition (after_message k x) (Deactivate n)
drop_stays k x n apart one h = ap (λ b. cond b (after_drop_all (after_message k x)) (after_drop (after_message k x) n)) one ∙ (λ i. record (after_message k x) { numbers = fun_ext (λ j. by_own j (j == n) refl) i; holds = fun_ext holds i; owners = fun_ext owners i })
  where
    dropped_k : after_drop k n ≡ k
    dropped_k = sym (ap (λ b. cond b (after_drop_all k) (after_drop k n)) one) ∙ h

    was : dropped (k.numbers n) ≡ k.numbers n
    was = sym (pick (n == n) _ _ (eq-eqb n n refl)) ∙ ap (λ (z : Known). z.numbers n) dropped_k

    now : dropped ((after_message k x).numbers n) ≡ (after_message k x).numbers n
    now = number_stays (λ y. dropped y ≡ y) left_dropped k n was x apart

    by_own : (j : ℕ) (b : Bool) → (j == n) ≡ b → cond b (dropped ((after_message k x).numbers j)) ((after_message k x).numbers j) ≡ (after_message k x).numbers j
    by_own j true own = subst (λ m. dropped ((after_message k x).numbers m) ≡ (after_message k x).numbers m) (sym (eqb-true j n own)) now
    by_own j false other = refl

    holds : (t : Serial) → given_up ((after_message k x).holds t) n ≡ (after_message k x).holds t
    holds = holds_stay k n (λ t. ap (λ (z : Known). z.holds t) dropped_k) x apart

    owners : (a : ℕ) → owner_after (λ j. cond (j == n) Yes No) ((after_message k x).owners a) ≡ (after_message k x).owners a
    owners a = its_same k n ((after_message k x).owners a) (owners_stay k n (λ b. not_its k n (k.owners b) (ap (λ (z : Known). z.owners b) dropped_k)) x apart a)

-- ---- Enable_Serial_Number

module _ (k : Known) (s : Serial) (is : k.disabled s ≡ No) where
  disabled_stays : (x : Down) → names_serial x s ≡ false → (after_message k x).disabled s ≡ No
  disabled_stays (UpstreamOverhead burst) e = is
  disabled_stays (AssignOnu m t) e = by_low (is_unit_number m)
    where
      by_low : (b : Bool) → (cond b (after_assign k m t) k).disabled s ≡ No
      by_low true = is
      by_low false = is
  disabled_stays (RangingTime m f) e = is
  disabled_stays (Deactivate m) e = by_all (m == 255)
    where
      by_all : (b : Bool) → (cond b (after_drop_all k) (after_drop k m)).disabled s ≡ No
      by_all true = is
      by_all false = is
  disabled_stays (DisableSerial t) e = skip (same_serial s t) _ _ e ∙ is
  disabled_stays (EnableSerial t) e = skip (same_serial s t) _ _ e ∙ is
  disabled_stays EnableAll e = refl
  disabled_stays (AssignAlloc m a keep) e = is
  disabled_stays NoMessage e = is
  disabled_stays (Popup m) e = by_all (m == 255)
    where
      by_all : (b : Bool) → (cond b (after_pop_up_all k) k).disabled s ≡ No
      by_all true = is
      by_all false = is
  disabled_stays (Other id m body) e = by_test (id == 23) (m == 255)
    where
      by_test : (b c : Bool) → (cond b (cond c (after_pop_up_all k) (after_adjust k m)) k).disabled s ≡ No
      by_test true true = is
      by_test true false = is
      by_test false c = is

enable_stays : (k : Known) (x : Down) (s : Serial) → names_serial x s ≡ false → IsRepetition k (EnableSerial s) → IsRepetition (after_message k x) (EnableSerial s)
enable_stays k x s apart h = λ i. record (after_message k x) { disabled = fun_ext (λ t. by_same t (same_serial t s) refl) i }
  where
    was : k.disabled s ≡ No
    was = sym (ap (λ (z : Known). z.disabled s) h) ∙ pick (same_serial s s) _ _ (same_serial-itself s)

    by_same : (t : Serial) (b : Bool) → same_serial t s ≡ b → cond b No ((after_message k x).disabled t) ≡ (after_message k x).disabled t
    by_same t true e = sym (ap (λ (u : Serial). (after_message k x).disabled u) (same_serial-true t s e) ∙ disabled_stays k s was x apart)
    by_same t false e = refl

pub stays_repetition : StaysRepetition
stays_repetition = record { range = range_stays; drop = drop_stays; enable = enable_stays }
