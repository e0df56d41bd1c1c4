-- Who begins later never finds more, where no unit restarts that was there before.
use Rattle.std.proofs.Common.{◌≡◌, ℕ, ◌==◌, Bool, true, false, cond, ◌&&◌, List, [], ◌∷◌, Option, None, Some, ◌⊎◌, inl, inr, refl, sym, ap, subst, ◌∙◌}
use Rattle.std.proofs.lemmas.Bool.{false≢true, eqb-true}
use Rattle.gp_ploam.specs.declared.message.Serial.{Serial}
use Rattle.gp_ploam.specs.declared.message.Down.{Down}
use Rattle.gp_ploam.specs.declared.message.Down.TheVariants.{UpstreamOverhead, AssignOnu, RangingTime, Deactivate, DisableSerial, EnableSerial, EnableAll, AssignAlloc, NoMessage, Popup, Other}
use Rattle.gp_ploam.specs.declared.message.Up.{Up}
use Rattle.gp_ploam.specs.declared.message.Up.TheVariants.{SerialNumber}
use Rattle.gp_ploam.specs.declared.message.Up.TheVariants as up
use Rattle.gp_ploam.specs.Up.{octet1_of}
use Rattle.gp_ploam.specs.Serials.{same_serial}
use Rattle.gp_ploam.proofs.Serials.{same_serial-true, same_serial-itself}
use Rattle.gp_observer.specs.Observer.{is_unit_number}
use Rattle.gp_observer.specs.Heard.{Heard, HeardDown, HeardUp, HeardGrant}
use Rattle.hear_rules.specs.Facts.{Fact, Unknown, Nothing, Is, Sure, Yes, No, Unsure}
use Rattle.hear_rules.specs.Known.{Span, Number, Unheard, Nobodys, Of, Known, known_midway, begun, assigned, left_by, given_up, dropped, ranged, popped_up, is_by, answers_with, spoken, asked_by, was_assigned, asked_with, after_assign, after_drop, after_drop_all, after_pop_up_all, after_adjust, after_message, after_answer, known_after, known_after_all}
use Rattle.hear_rules.specs.Rules.{Settings}
use Rattle.hear_rules.specs.Less.{HoldsIt, Later, NoneRestarts, NoneEverRestarts, HearingKeepsLess, FindsNoMore, IsBeginning, LaterFindsNoMore}
use Rattle.hear_rules.proofs.Repeating.{pick, skip}
use Rattle.hear_rules.proofs.Ordering.{IsAnothers, message_less, answer_less, less_breaks_no_more}

-- ---- values

no_yes : ◌≡◌ {A = Sure} No Yes → ⊥
no_yes h = cc

unsure_yes : ◌≡◌ {A = Sure} Unsure Yes → ⊥
unsure_yes h = cc

not_is : (n : ℕ) → ◌≡◌ {A = Fact ℕ} Nothing (Is n) → ⊥
not_is n h = cc

unknown_is : (n : ℕ) → ◌≡◌ {A = Fact ℕ} Unknown (Is n) → ⊥
unknown_is n h = cc

one_number : (m n : ℕ) → ◌≡◌ {A = Fact ℕ} (Is m) (Is n) → m ≡ n
one_number m n h = cc

of_unheard : (t : Serial) (d : Fact ℕ) (a : Fact Span) → Of t d a ≡ Unheard → ⊥
of_unheard t d a h = cc

nobodys_unheard : ◌≡◌ {A = Number} Nobodys Unheard → ⊥
nobodys_unheard h = cc

other_way : (s t : Serial) → same_serial s t ≡ false → same_serial t s ≡ false
other_way s t e = by_same (same_serial t s) refl
  where
    by_same : (b : Bool) → same_serial t s ≡ b → same_serial t s ≡ false
    by_same true g = absurd (false≢true (sym e ∙ ap (λ (y : Serial). same_serial s y) (same_serial-true t s g) ∙ same_serial-itself s))
    by_same false g = g

-- who holds another ONU-ID keeps it
given_up_other : (j n : ℕ) → (j == n) ≡ false → given_up (Is j) n ≡ Is j
given_up_other j n e = skip (j == n) _ _ e

-- who still holds one held it, and it is another one
still_held : (f : Fact ℕ) (j n : ℕ) → given_up f j ≡ Is n → (f ≡ Is n) × ((n == j) ≡ false)
still_held Unknown j n e = absurd (unknown_is n e)
still_held Nothing j n e = absurd (not_is n e)
still_held (Is m) j n e = by_it (m == j) refl e
  where
    by_it : (b : Bool) → (m == j) ≡ b → cond b Nothing (Is m) ≡ Is n → (Is m ≡ Is n) × ((n == j) ≡ false)
    by_it true it g = absurd (not_is n g)
    by_it false it g = (g, ap (λ x. x == j) (sym (one_number m n g)) ∙ it)

-- ---- an ONU-ID that isn't known wasn't before

begun_known : (x : Sure) (s : Serial) → begun x s ≡ Unheard → ⊥
begun_known Yes s h = of_unheard _ _ _ h
begun_known No s h = of_unheard _ _ _ h
begun_known Unsure s h = of_unheard _ _ _ h

assigned_known : (x : Sure) (y : Number) (s : Serial) → assigned x y s ≡ Unheard → ⊥
assigned_known x Unheard s h = begun_known x s h
assigned_known x Nobodys s h = of_unheard _ _ _ h
assigned_known x (Of t d a) s h = by_same (same_serial s t) h
  where
    by_same : (b : Bool) → cond b (Of t d a) (Of s Nothing Nothing) ≡ Unheard → ⊥
    by_same true g = of_unheard _ _ _ g
    by_same false g = of_unheard _ _ _ g

left_before : (y : Number) (s : Serial) → left_by y s ≡ Unheard → y ≡ Unheard
left_before Unheard s h = refl
left_before Nobodys s h = h
left_before (Of t d a) s h = by_same (same_serial s t) h
  where
    by_same : (b : Bool) → cond b Nobodys (Of t d a) ≡ Unheard → Of t d a ≡ Unheard
    by_same true g = absurd (nobodys_unheard g)
    by_same false g = g

dropped_known : (y : Number) → dropped y ≡ Unheard → ⊥
dropped_known Unheard h = nobodys_unheard h
dropped_known Nobodys h = nobodys_unheard h
dropped_known (Of t d a) h = nobodys_unheard h

ranged_before : (y : Number) (e : ℕ) → ranged y e ≡ Unheard → y ≡ Unheard
ranged_before Unheard e h = refl
ranged_before Nobodys e h = h
ranged_before (Of t d a) e h = absurd (of_unheard _ _ _ h)

popped_before : (y : Number) → popped_up y ≡ Unheard → y ≡ Unheard
popped_before Unheard h = refl
popped_before Nobodys h = h
popped_before (Of t d a) h = absurd (of_unheard _ _ _ h)

spoken_before : (y : Number) (m : Up) (delay : Option ℕ) → spoken y m delay ≡ Unheard → y ≡ Unheard
spoken_before Unheard m delay h = refl
spoken_before Nobodys m delay h = h
spoken_before (Of t d a) m delay h = by_its (is_by t m) h
  where
    by_its : (b : Bool) → cond b (Of t d (answers_with a delay)) (Of t d a) ≡ Unheard → Of t d a ≡ Unheard
    by_its true g = absurd (of_unheard _ _ _ g)
    by_its false g = g

one_before : (b : Bool) (f : Number → Number) (y : Number) → (f y ≡ Unheard → y ≡ Unheard) → cond b (f y) y ≡ Unheard → y ≡ Unheard
one_before true f y h e = h e
one_before false f y h e = e

-- ---- who holds an ONU-ID is known to hold it

module _ (k : Known) (agrees : (n : ℕ) → HoldsIt k n (k.numbers n)) where
  module _ (n : ℕ) (s : Serial) where
    assign_agrees : (j : ℕ) → HoldsIt (after_assign k n s) j (cond (j == n) (assigned (k.asked s) (k.numbers j) s) (left_by (k.numbers j) s))
    assign_agrees j = by_own (j == n) refl
      where
        own : (j == n) ≡ true → (after_assign k n s).holds s ≡ Is j
        own e = pick (same_serial s s) _ _ (same_serial-itself s) ∙ ap Is (sym (eqb-true j n e))

        of_begun : (j == n) ≡ true → (x : Sure) → HoldsIt (after_assign k n s) j (begun x s)
        of_begun e Yes = own e
        of_begun e No = own e
        of_begun e Unsure = own e

        of_own : (j == n) ≡ true → (y : Number) → HoldsIt (after_assign k n s) j (assigned (k.asked s) y s)
        of_own e Unheard = of_begun e (k.asked s)
        of_own e Nobodys = own e
        of_own e (Of t d a) = by_same (same_serial s t) refl
          where
            by_same : (b : Bool) → same_serial s t ≡ b → HoldsIt (after_assign k n s) j (cond b (Of t d a) (Of s Nothing Nothing))
            by_same true same = ap (λ (x : Serial). (after_assign k n s).holds x) (sym (same_serial-true s t same)) ∙ own e
            by_same false same = own e

        of_other : (j == n) ≡ false → (y : Number) → HoldsIt k j y → HoldsIt (after_assign k n s) j (left_by y s)
        of_other e Unheard h = tt
        of_other e Nobodys h = tt
        of_other e (Of t d a) h = by_same (same_serial s t) refl
          where
            by_same : (b : Bool) → same_serial s t ≡ b → HoldsIt (after_assign k n s) j (cond b Nobodys (Of t d a))
            by_same true same = tt
            by_same false same = skip (same_serial t s) _ _ (other_way s t same) ∙ ap (λ f. given_up f n) h ∙ given_up_other j n e

        by_own : (b : Bool) → (j == n) ≡ b → HoldsIt (after_assign k n s) j (cond b (assigned (k.asked s) (k.numbers j) s) (left_by (k.numbers j) s))
        by_own true e = of_own e (k.numbers j)
        by_own false e = of_other e (k.numbers j) (agrees j)

  disable_agrees : (s : Serial) (j : ℕ) (y : Number) → HoldsIt k j y → HoldsIt (after_message k (DisableSerial s)) j (left_by y s)
  disable_agrees s j Unheard h = tt
  disable_agrees s j Nobodys h = tt
  disable_agrees s j (Of t d a) h = by_same (same_serial s t) refl
    where
      by_same : (b : Bool) → same_serial s t ≡ b → HoldsIt (after_message k (DisableSerial s)) j (cond b Nobodys (Of t d a))
      by_same true same = tt
      by_same false same = skip (same_serial t s) _ _ (other_way s t same) ∙ h

  drop_agrees : (n j : ℕ) → HoldsIt (after_drop k n) j (cond (j == n) (dropped (k.numbers j)) (k.numbers j))
  drop_agrees n j = by_own (j == n) refl
    where
      gone : (y : Number) → HoldsIt (after_drop k n) j (dropped y)
      gone Unheard = tt
      gone Nobodys = tt
      gone (Of t d a) = tt

      there : (j == n) ≡ false → (y : Number) → HoldsIt k j y → HoldsIt (after_drop k n) j y
      there e Unheard h = tt
      there e Nobodys h = tt
      there e (Of t d a) h = ap (λ f. given_up f n) h ∙ given_up_other j n e

      by_own : (b : Bool) → (j == n) ≡ b → HoldsIt (after_drop k n) j (cond b (dropped (k.numbers j)) (k.numbers j))
      by_own true e = gone (k.numbers j)
      by_own false e = there e (k.numbers j) (agrees j)

  drop_all_agrees : (j : ℕ) (y : Number) → HoldsIt (after_drop_all k) j (dropped y)
  drop_all_agrees j Unheard = tt
  drop_all_agrees j Nobodys = tt
  drop_all_agrees j (Of t d a) = tt

  -- what changes neither who holds it nor what is known of serial numbers
  ranged_agrees : (j e : ℕ) (y : Number) → HoldsIt k j y → HoldsIt k j (ranged y e)
  ranged_agrees j e Unheard h = tt
  ranged_agrees j e Nobodys h = tt
  ranged_agrees j e (Of t d a) h = h

  popped_agrees : (j : ℕ) (y : Number) → HoldsIt k j y → HoldsIt k j (popped_up y)
  popped_agrees j Unheard h = tt
  popped_agrees j Nobodys h = tt
  popped_agrees j (Of t d a) h = h

  spoken_agrees : (j : ℕ) (m : Up) (delay : Option ℕ) (y : Number) → HoldsIt k j y → HoldsIt k j (spoken y m delay)
  spoken_agrees j m delay Unheard h = tt
  spoken_agrees j m delay Nobodys h = tt
  spoken_agrees j m delay (Of t d a) h = by_its (is_by t m)
    where
      by_its : (b : Bool) → HoldsIt k j (cond b (Of t d (answers_with a delay)) (Of t d a))
      by_its true = h
      by_its false = h

  one_agrees : (j : ℕ) (b : Bool) (x y : Number) → HoldsIt k j x → HoldsIt k j y → HoldsIt k j (cond b x y)
  one_agrees j true x y h g = h
  one_agrees j false x y h g = g

  same_holds : (l : Known) (j : ℕ) (y : Number) → l.holds ≡ k.holds → HoldsIt k j y → HoldsIt l j y
  same_holds l j Unheard e h = tt
  same_holds l j Nobodys e h = tt
  same_holds l j (Of t d a) e h = ap (λ (f : Serial → Fact ℕ). f t) e ∙ h

  message_agrees : (m : Down) (j : ℕ) → HoldsIt (after_message k m) j ((after_message k m).numbers j)
  message_agrees (UpstreamOverhead burst) j = same_holds (after_message k (UpstreamOverhead burst)) j (k.numbers j) refl (agrees j)
  message_agrees (AssignOnu n s) j = by_low (is_unit_number n)
    where
      by_low : (b : Bool) → HoldsIt (cond b (after_assign k n s) k) j ((cond b (after_assign k n s) k).numbers j)
      by_low true = assign_agrees n s j
      by_low false = agrees j
  message_agrees (RangingTime n e) j =
      same_holds (after_message k (RangingTime n e)) j _ refl (one_agrees j (j == n) (ranged (k.numbers j) e) (k.numbers j) (ranged_agrees j e (k.numbers j) (agrees j)) (agrees j))
  message_agrees (Deactivate n) j = by_all (n == 255)
    where
      by_all : (b : Bool) → HoldsIt (cond b (after_drop_all k) (after_drop k n)) j ((cond b (after_drop_all k) (after_drop k n)).numbers j)
      by_all true = drop_all_agrees j (k.numbers j)
      by_all false = drop_agrees n j
  message_agrees (DisableSerial s) j = disable_agrees s j (k.numbers j) (agrees j)
  message_agrees (EnableSerial s) j = same_holds (after_message k (EnableSerial s)) j (k.numbers j) refl (agrees j)
  message_agrees EnableAll j = same_holds (after_message k EnableAll) j (k.numbers j) refl (agrees j)
  message_agrees (AssignAlloc n a keep) j = same_holds (after_message k (AssignAlloc n a keep)) j (k.numbers j) refl (agrees j)
  message_agrees NoMessage j = agrees j
  message_agrees (Popup n) j = by_all (n == 255)
    where
      by_all : (b : Bool) → HoldsIt (cond b (after_pop_up_all k) k) j ((cond b (after_pop_up_all k) k).numbers j)
      by_all true = same_holds (after_pop_up_all k) j _ refl (popped_agrees j (k.numbers j) (agrees j))
      by_all false = agrees j
  message_agrees (Other id octet1 body) j = by_test (id == 23) (octet1 == 255)
    where
      by_test : (b c : Bool) → HoldsIt (cond b (cond c (after_pop_up_all k) (after_adjust k octet1)) k) j ((cond b (cond c (after_pop_up_all k) (after_adjust k octet1)) k).numbers j)
      by_test true true = same_holds (after_pop_up_all k) j _ refl (popped_agrees j (k.numbers j) (agrees j))
      by_test true false = same_holds (after_adjust k octet1) j _ refl (one_agrees j (j == octet1) (popped_up (k.numbers j)) (k.numbers j) (popped_agrees j (k.numbers j) (agrees j)) (agrees j))
      by_test false c = agrees j

  pub heard_agrees : (x : Heard) (j : ℕ) → HoldsIt (known_after k x) j ((known_after k x).numbers j)
  heard_agrees (HeardDown None) j = agrees j
  heard_agrees (HeardDown (Some m)) j = message_agrees m j
  heard_agrees (HeardUp None delay) j = agrees j
  heard_agrees (HeardUp (Some m) delay) j =
      same_holds (after_answer k m delay) j _ refl (one_agrees j (j == octet1_of m) (spoken (k.numbers j) m delay) (k.numbers j) (spoken_agrees j m delay (k.numbers j) (agrees j)) (agrees j))
  heard_agrees (HeardGrant g) j = agrees j

-- ---- who asked

-- who asked still does, or asks now
asked_before : (m : Up) (t : Serial) (x : Sure) → asked_with m t x ≡ Yes → (x ≡ Yes) ⊎ (asked_by m t ≡ true)
asked_before (SerialNumber n s random flags) t x h = by_same (same_serial t s) (n == 255) x h
  where
    by_same : (b c : Bool) (x : Sure) → cond b (cond c Yes (was_assigned x)) x ≡ Yes → (x ≡ Yes) ⊎ ((c && b) ≡ true)
    by_same true true x g = inr refl
    by_same true false Yes g = inl refl
    by_same true false No g = absurd (no_yes g)
    by_same true false Unsure g = absurd (unsure_yes g)
    by_same false c x g = inl g
asked_before (up.DyingGasp n) t x h = inl h
asked_before (up.NoMessage n) t x h = inl h
asked_before (up.Acknowledge n id copy) t x h = inl h
asked_before (up.Other id octet1 body) t x h = inl h

module _ (k l : Known) (is : Later k l) where
  assign_asked : (j : ℕ) (s t : Serial) (n : ℕ) → (after_assign k j s).asked t ≡ Yes → (after_assign l j s).holds t ≡ Is n → (after_assign k j s).numbers n ≡ Unheard → ⊥
  assign_asked j s t n = by_same (same_serial t s)
    where
      by_own : (b : Bool) → b ≡ false → cond b (assigned (k.asked s) (k.numbers n) s) (left_by (k.numbers n) s) ≡ Unheard → k.numbers n ≡ Unheard
      by_own b e h = left_before (k.numbers n) s (sym (skip b _ _ e) ∙ h)

      by_same : (b : Bool) → cond b No (k.asked t) ≡ Yes → cond b (Is j) (given_up (l.holds t) j) ≡ Is n → (after_assign k j s).numbers n ≡ Unheard → ⊥
      by_same true asks holds unheard = no_yes asks
      by_same false asks holds unheard = let held = still_held (l.holds t) j n holds in is.asked t n asks held.0 (by_own (n == j) held.1 unheard)

  disable_asked : (s t : Serial) (n : ℕ) → k.asked t ≡ Yes → (b : Bool) → cond b Nothing (l.holds t) ≡ Is n → left_by (k.numbers n) s ≡ Unheard → ⊥
  disable_asked s t n asks true holds unheard = not_is n holds
  disable_asked s t n asks false holds unheard = is.asked t n asks holds (left_before (k.numbers n) s unheard)

  message_asked : (m : Down) (t : Serial) (n : ℕ) → (after_message k m).asked t ≡ Yes → (after_message l m).holds t ≡ Is n → (after_message k m).numbers n ≡ Unheard → ⊥
  message_asked (UpstreamOverhead burst) t n asks holds unheard = is.asked t n asks holds unheard
  message_asked (AssignOnu j s) t n asks holds unheard = by_low (is_unit_number j) asks holds unheard
    where
      by_low : (b : Bool) → (cond b (after_assign k j s) k).asked t ≡ Yes → (cond b (after_assign l j s) l).holds t ≡ Is n → (cond b (after_assign k j s) k).numbers n ≡ Unheard → ⊥
      by_low true = assign_asked j s t n
      by_low false = is.asked t n
  message_asked (RangingTime j e) t n asks holds unheard = is.asked t n asks holds (one_before (n == j) (λ y. ranged y e) (k.numbers n) (ranged_before (k.numbers n) e) unheard)
  message_asked (Deactivate j) t n asks holds unheard = by_all (j == 255) asks holds unheard
    where
      one : (b : Bool) → cond b (dropped (k.numbers n)) (k.numbers n) ≡ Unheard → k.numbers n ≡ Unheard
      one true h = absurd (dropped_known (k.numbers n) h)
      one false h = h

      by_all : (b : Bool) → (cond b (after_drop_all k) (after_drop k j)).asked t ≡ Yes → (cond b (after_drop_all l) (after_drop l j)).holds t ≡ Is n → (cond b (after_drop_all k) (after_drop k j)).numbers n ≡ Unheard → ⊥
      by_all true asks holds unheard = not_is n holds
      by_all false asks holds unheard = is.asked t n asks (still_held (l.holds t) j n holds).0 (one (n == j) unheard)
  message_asked (DisableSerial s) t n asks holds unheard = disable_asked s t n asks (same_serial t s) holds unheard
  message_asked (EnableSerial s) t n asks holds unheard = is.asked t n asks holds unheard
  message_asked EnableAll t n asks holds unheard = is.asked t n asks holds unheard
  message_asked (AssignAlloc j a keep) t n asks holds unheard = is.asked t n asks holds unheard
  message_asked NoMessage t n asks holds unheard = is.asked t n asks holds unheard
  message_asked (Popup j) t n asks holds unheard = by_all (j == 255) asks holds unheard
    where
      by_all : (b : Bool) → (cond b (after_pop_up_all k) k).asked t ≡ Yes → (cond b (after_pop_up_all l) l).holds t ≡ Is n → (cond b (after_pop_up_all k) k).numbers n ≡ Unheard → ⊥
      by_all true asks holds unheard = is.asked t n asks holds (popped_before (k.numbers n) unheard)
      by_all false asks holds unheard = is.asked t n asks holds unheard
  message_asked (Other id octet1 body) t n asks holds unheard = by_test (id == 23) (octet1 == 255) asks holds unheard
    where
      by_test : (b c : Bool) → (cond b (cond c (after_pop_up_all k) (after_adjust k octet1)) k).asked t ≡ Yes → (cond b (cond c (after_pop_up_all l) (after_adjust l octet1)) l).holds t ≡ Is n
          → (cond b (cond c (after_pop_up_all k) (after_adjust k octet1)) k).numbers n ≡ Unheard → ⊥
      by_test true true asks holds unheard = is.asked t n asks holds (popped_before (k.numbers n) unheard)
      by_test true false asks holds unheard = is.asked t n asks holds (one_before (n == octet1) popped_up (k.numbers n) (popped_before (k.numbers n)) unheard)
      by_test false c asks holds unheard = is.asked t n asks holds unheard

  answer_asked : (m : Up) (delay : Option ℕ) → NoneRestarts k l (HeardUp (Some m) delay) → (t : Serial) (n : ℕ) → asked_with m t (k.asked t) ≡ Yes → l.holds t ≡ Is n → (after_answer k m delay).numbers n ≡ Unheard → ⊥
  answer_asked m delay none t n asks holds unheard = by_asked (asked_before m t (k.asked t) asks)
    where
      before : k.numbers n ≡ Unheard
      before = one_before (n == octet1_of m) (λ y. spoken y m delay) (k.numbers n) (spoken_before (k.numbers n) m delay) unheard

      by_asked : (k.asked t ≡ Yes) ⊎ (asked_by m t ≡ true) → ⊥
      by_asked (inl was) = is.asked t n was holds before
      by_asked (inr now) = none t n now holds before

  -- a unit that was heard asking doesn't have what it is given
  gives_anew : (n : ℕ) (s : Serial) → k.asked s ≡ Yes → k.numbers n ≡ Unheard → IsAnothers s (l.numbers n)
  gives_anew n s asks unheard = by_number (l.numbers n) (is.agrees n)
    where
      by_number : (y : Number) → HoldsIt l n y → IsAnothers s y
      by_number Unheard h = tt
      by_number Nobodys h = tt
      by_number (Of t d a) h = by_same (same_serial s t) refl
        where
          by_same : (b : Bool) → same_serial s t ≡ b → same_serial s t ≡ false
          by_same true e = absurd (is.asked s n asks (ap (λ (x : Serial). l.holds x) (same_serial-true s t e) ∙ h) unheard)
          by_same false e = e

-- ---- the laws

pub hearing_keeps_less : HearingKeepsLess
hearing_keeps_less k l (HeardDown None) is none = is
hearing_keeps_less k l (HeardDown (Some m)) is none = record { less = message_less k l is.less m (anew m); agrees = heard_agrees l is.agrees (HeardDown (Some m)); asked = message_asked k l is m }
  where
    anew : (m : Down) → Rattle.hear_rules.proofs.Ordering.GivesAnew k l is.less m
    anew (AssignOnu n s) = gives_anew k l is n s
    anew (UpstreamOverhead burst) = tt
    anew (RangingTime n e) = tt
    anew (Deactivate n) = tt
    anew (DisableSerial s) = tt
    anew (EnableSerial s) = tt
    anew EnableAll = tt
    anew (AssignAlloc n a keep) = tt
    anew NoMessage = tt
    anew (Popup n) = tt
    anew (Other id octet1 body) = tt
hearing_keeps_less k l (HeardUp None delay) is none = is
hearing_keeps_less k l (HeardUp (Some m) delay) is none = record { less = answer_less k l is.less m delay; agrees = heard_agrees l is.agrees (HeardUp (Some m) delay); asked = answer_asked k l is m delay none }
hearing_keeps_less k l (HeardGrant g) is none = is

finds_no_more : (settings : Settings) (k l : Known) (later : List Heard) → Later k l → NoneEverRestarts k l later → FindsNoMore settings k l later
finds_no_more settings k l [] is none = tt
finds_no_more settings k l (x ∷ xs) is none =
    (λ r e. less_breaks_no_more settings k l x r is.less e, finds_no_more settings (known_after k x) (known_after l x) xs (hearing_keeps_less k l x is none.0) none.1)

false_true : ◌≡◌ {A = Bool} false true → ⊥
false_true h = cc

agrees_all : (k : Known) (xs : List Heard) → ((n : ℕ) → HoldsIt k n (k.numbers n)) → (n : ℕ) → HoldsIt (known_after_all k xs) n ((known_after_all k xs).numbers n)
agrees_all k [] h = h
agrees_all k (x ∷ xs) h = agrees_all (known_after k x) xs (heard_agrees k h x)

agrees_begun : (k : Known) → IsBeginning k → (n : ℕ) → HoldsIt k n (k.numbers n)
agrees_begun k (inl whole) = subst (λ (x : Known). (n : ℕ) → HoldsIt x n (x.numbers n)) (sym whole) (λ n. tt)
agrees_begun k (inr midway) = subst (λ (x : Known). (n : ℕ) → HoldsIt x n (x.numbers n)) (sym midway) (λ n. tt)

pub later_finds_no_more : LaterFindsNoMore
later_finds_no_more settings k before later begun none =
    finds_no_more settings known_midway (known_after_all k before) later
    (record {
      less = record { numbers = λ n. tt; holds = λ t. tt; disabled = λ t. tt; asks = λ t. tt; asked = λ t. tt; owners = λ a. tt; overhead = tt; up = λ e. absurd (false_true e) };
      agrees = agrees_all k before (agrees_begun k begun);
      asked = λ t n asks holds unheard. unsure_yes asks;
    }) none
