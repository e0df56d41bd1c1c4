-- What is observed of ONU-IDs is observed of those from 0 to 253.
use Rattle.std.proofs.Common.{◌≡◌, ℕ, ◌≤◌, ◌==◌, Bool, true, false, cond, List, [], ◌∷◌, Option, None, Some, ◌⊎◌, inl, inr, refl, sym, ap, ◌∙◌, arith}
use Rattle.std.specs.Ordering.{nat_cmp}
use Rattle.std.specs.FinMap.{get, insert, remove, get-empty}
use Rattle.std.specs.FinSet.{contains, contains-empty}
use Rattle.std.proofs.lemmas.Bool.{cases_eq, false≢true, ltb-false}
use Rattle.gp_ploam.specs.declared.message.Serial.{Serial}
use Rattle.gp_ploam.specs.declared.message.Down.{Down}
use Rattle.gp_ploam.specs.declared.message.Down.TheVariants.{AssignOnu, RangingTime, Deactivate, DisableSerial, AssignAlloc, Popup}
use Rattle.gp_ploam.specs.Serials.{serial_cmp}
use Rattle.gp_observer.specs.Observer.{Observed, nothing_observed, some_passes, is_unit_number, drops, units_without, popped_up, observed_after}
use Rattle.gp_observer.specs.Watch.{numbers_below}
use Rattle.gp_observer.proofs.Keeping.{IsHeld, KeepsRules, AllKeepRules}
use Rattle.gp_observer.proofs.Listed.{put_same, put_other, removed_same, removed_other, dropped_at, not_none}
use Rattle.gp_observer.proofs.Numbers.{in_below, was_there, kept_number}
use Rattle.gp_observer.proofs.Agreeing.{Agrees}
use Rattle.gp_observer.proofs.Answering.{Owed, AreOwed, are_owed_weaker}

pub record AreLow (s : Observed) : Type 0 where
  pub holder : (n : ℕ) (t : Serial) → get s.holder n ≡ Some t → n ≤ 253
  pub delay : (n eqd : ℕ) → get s.delay n ≡ Some eqd → n ≤ 253
  pub alloc : (a n : ℕ) → get s.alloc a ≡ Some n → n ≤ 253

one_number : (m n : ℕ) → Some m ≡ Some n → m ≡ n
one_number m n h = cc

-- before the first message
pub nothing_low : AreLow nothing_observed
nothing_low =
    record {
      holder = λ n t h. absurd (not_none t (sym (get-empty nat_cmp n) ∙ h));
      delay = λ n eqd h. absurd (not_none eqd (sym (get-empty nat_cmp n) ∙ h));
      alloc = λ a n h. absurd (not_none n (sym (get-empty nat_cmp a) ∙ h));
    }

module _ (s : Observed) (is : AreLow s) where
  held_low : (n : ℕ) → IsHeld s n → n ≤ 253
  held_low n held = is.holder n held.0 held.1

  low_without : (gone : ℕ → Bool) → AreLow (units_without s gone)
  low_without gone =
      record {
        holder = λ n t h. is.holder n t (was_there (gone n) (get s.holder n) t (sym (dropped_at s.holder gone n) ∙ h)).0;
        delay = λ n eqd h. is.delay n eqd (was_there (gone n) (get s.delay n) eqd (sym (dropped_at s.delay gone n) ∙ h)).0;
        alloc = λ a n h. is.alloc a n ((kept_number gone (get s.alloc a) n).0 (sym (dropped_at s.alloc (λ x. some_passes gone (get s.alloc x)) a) ∙ h)).0;
      }

  low_holder : (k : ℕ) (t : Serial) → k ≤ 253 → AreLow (record s { holder = insert s.holder k t })
  low_holder k t low = record { holder = λ n x h. by_key n x h (cases_eq n k); delay = is.delay; alloc = is.alloc }
    where
      by_key : (n : ℕ) (x : Serial) → get (insert s.holder k t) n ≡ Some x → (n ≡ k) ⊎ (n ≡ k → ⊥) → n ≤ 253
      by_key n x h (inl same) = omega (arith, same, low)
      by_key n x h (inr other) = is.holder n x (sym (put_other s.holder k t n other) ∙ h)

  low_delay : (k eqd : ℕ) → k ≤ 253 → AreLow (record s { delay = insert s.delay k eqd })
  low_delay k eqd low = record { holder = is.holder; delay = λ n x h. by_key n x h (cases_eq n k); alloc = is.alloc }
    where
      by_key : (n x : ℕ) → get (insert s.delay k eqd) n ≡ Some x → (n ≡ k) ⊎ (n ≡ k → ⊥) → n ≤ 253
      by_key n x h (inl same) = omega (arith, same, low)
      by_key n x h (inr other) = is.delay n x (sym (put_other s.delay k eqd n other) ∙ h)

  low_given : (k a : ℕ) → k ≤ 253 → AreLow (record s { alloc = insert s.alloc a k })
  low_given k a low = record { holder = is.holder; delay = is.delay; alloc = λ x n h. by_key x n h (cases_eq x a) }
    where
      by_key : (x n : ℕ) → get (insert s.alloc a k) x ≡ Some n → (x ≡ a) ⊎ (x ≡ a → ⊥) → n ≤ 253
      by_key x n h (inl same) = let it : k ≡ n = one_number k n (sym (ap (get (insert s.alloc a k)) same ∙ put_same s.alloc a k) ∙ h) in omega arith
      by_key x n h (inr other) = is.alloc x n (sym (put_other s.alloc a k x other) ∙ h)

  low_back : (a : ℕ) → AreLow (record s { alloc = remove s.alloc a })
  low_back a = record { holder = is.holder; delay = is.delay; alloc = λ x n h. by_key x n h (cases_eq x a) }
    where
      by_key : (x n : ℕ) → get (remove s.alloc a) x ≡ Some n → (x ≡ a) ⊎ (x ≡ a → ⊥) → n ≤ 253
      by_key x n h (inl same) = absurd (not_none n (sym (ap (get (remove s.alloc a)) same ∙ removed_same s.alloc a) ∙ h))
      by_key x n h (inr other) = is.alloc x n (sym (removed_other s.alloc a x other) ∙ h)

  low_popped : (all : Bool) → AreLow (popped_up s all)
  low_popped true = record { holder = is.holder; delay = λ n eqd h. absurd (not_none eqd (sym (get-empty nat_cmp n) ∙ h)); alloc = is.alloc }
  low_popped false = is

-- a message that keeps the rules changes nothing of it
pub low_after : (s : Observed) (m : Down) → KeepsRules s m → AreLow s → AreLow (observed_after s m)
low_after s (AssignOnu k t) h is = by_low (is_unit_number k)
  where
    left : Observed
    left = units_without s (drops s (AssignOnu k t))

    by_low : (b : Bool) → AreLow (cond b (record left { holder = insert left.holder k t }) left)
    by_low true = low_holder left (low_without s is (drops s (AssignOnu k t))) k t h.low
    by_low false = low_without s is (drops s (AssignOnu k t))
low_after s (RangingTime k eqd) h is = low_delay s is k eqd (held_low s is k h.0)
low_after s (Deactivate k) h is = low_without s is (drops s (Deactivate k))
low_after s (DisableSerial t) h is = let less = low_without s is (drops s (DisableSerial t)) in record { holder = less.holder; delay = less.delay; alloc = less.alloc }
low_after s (AssignAlloc k a true) h is = low_given s is k a (held_low s is k h.0.0)
low_after s (AssignAlloc k a false) h is = low_back s is a
low_after s (Popup k) h is = low_popped s is (k == 255)
low_after s _ h is = record { holder = is.holder; delay = is.delay; alloc = is.alloc }

-- ---- where nothing is known

-- of an ONU-ID of which it seems to be known who holds it, nothing is true
pub high : (n : ℕ) → contains (numbers_below 254) n ≡ false → 254 ≤ n
high n j = ltb-false n 254 (sym (in_below 254 n) ∙ j)

pub agrees_nothing : (s : Observed) → AreLow s → Agrees (numbers_below 254) nothing_observed s
agrees_nothing s is =
    record {
      holder = λ n j. get-empty nat_cmp n ∙ sym (no_holder n j (get s.holder n) refl);
      nobody = λ n j. get-empty nat_cmp n;
      delay = λ n j. get-empty nat_cmp n ∙ sym (no_delay n j (get s.delay n) refl);
      alloc = λ a n j. (λ h. absurd (not_none n (sym (get-empty nat_cmp a) ∙ h)), λ h. absurd (too_high n j (is.alloc a n h)));
      disabled = λ t h. absurd (false≢true (sym (contains-empty serial_cmp t) ∙ h));
    }
  where
    too_high : (n : ℕ) → contains (numbers_below 254) n ≡ false → n ≤ 253 → ⊥
    too_high n j low = let large = high n j in omega arith

    no_holder : (n : ℕ) → contains (numbers_below 254) n ≡ false → (o : Option Serial) → get s.holder n ≡ o → get s.holder n ≡ None
    no_holder n j None e = e
    no_holder n j (Some t) e = absurd (too_high n j (is.holder n t e))

    no_delay : (n : ℕ) → contains (numbers_below 254) n ≡ false → (o : Option ℕ) → get s.delay n ≡ o → get s.delay n ≡ None
    no_delay n j None e = e
    no_delay n j (Some eqd) e = absurd (too_high n j (is.delay n eqd e))

-- each Ranging_Time that is owed is to a unit
pub owed_low : (Ok : ℕ → ℕ → Type 0) (s : Observed) (ms : List Down) → AreLow s → AllKeepRules s ms → AreOwed Ok s ms → AreOwed (λ n eqd. Ok n eqd × (n ≤ 253)) s ms
owed_low Ok s [] is keep h = tt
owed_low Ok s (m ∷ ms) is keep h = (
  head m keep.0 h.0,
  are_owed_weaker (λ n eqd. (Ok n eqd × (drops s m n ≡ false)) × (n ≤ 253)) (λ n eqd. (Ok n eqd × (n ≤ 253)) × (drops s m n ≡ false)) (observed_after s m) ms (λ n eqd k. ((k.0.0, k.1), k.0.1))
      (owed_low (λ n eqd. Ok n eqd × (drops s m n ≡ false)) (observed_after s m) ms (low_after s m keep.0 is) keep.1 h.1),
)
  where
    head : (x : Down) → KeepsRules s x → Owed Ok x → Owed (λ n eqd. Ok n eqd × (n ≤ 253)) x
    head (RangingTime n eqd) kept ok = (ok, held_low s is n kept.0)
    head x kept ok = tt
