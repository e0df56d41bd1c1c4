-- What is known after a message.
use Rattle.std.proofs.Common.{◌≡◌, ℕ, ◌-◌, ◌≤◌, ◌==◌, arith, Bool, true, false, cond, ◌&&◌, ◌||◌, Option, None, Some, is_some, refl, sym, ap, ◌∙◌, eq-eqb}
use Rattle.std.specs.Option.{option_map}
use Rattle.std.specs.FinMap.{get, insert}
use Rattle.std.specs.FinSet as finset
use Rattle.std.proofs.lemmas.Bool.{le-leb, lt-leb}
use Rattle.gp_ploam.specs.declared.message.Serial.{Serial}
use Rattle.gp_ploam.specs.declared.message.Down.{Down}
use Rattle.gp_ploam.specs.declared.message.Down.TheVariants.{AssignOnu, DisableSerial, Popup}
use Rattle.gp_ploam.specs.Serials.{same_serial}
use Rattle.gp_observer.specs.Observer.{Observed, some_passes, is_of, is_unit_number, drops, units_without, with_holder, popped_up}
use Rattle.gp_observer.specs.Watch.{Watch, noted, seen_after, asks_after, told_with, unknown_after, asks_left, asks_put, asks_with, can_follow}
use Rattle.gp_observer.proofs.Listed.{dropped_at}
use Rattle.gp_table.proofs.Gets.{get-insert_same}
use Rattle.gp_watch.specs.Changes.{watch_without, watch_assigned}
use Rattle.gp_watch.proofs.Sets.{dropped_none, kept_all}
use Rattle.gp_watch.proofs.GivingUp.{without_twice, without_none, without_same}

-- ---- a message that takes no ONU-ID

abbrev pub without_drops : Watch → Down → Watch
without_drops w m = record w { seen = seen_after w m; asks = asks_after w m; told = told_with w.told m; unknown = unknown_after w m }

pub noted_keeping : (w : Watch) (m : Down) → ((n : ℕ) → drops w.seen m n ≡ false) → noted w m ≡ without_drops w m
noted_keeping w m none =
    λ i. record (without_drops w m) { answers = dropped_none w.answers (drops w.seen m) none i; told = told_with (kept_all w.told (drops w.seen m) none i) m }

pub noted_pop_up : (w : Watch) (n : ℕ) (b : Bool) → (n == 255) ≡ b → record w { seen = popped_up w.seen b } ≡ noted w (Popup n)
noted_pop_up w n b is = ap (λ c. record w { seen = popped_up w.seen c }) (sym is) ∙ sym (noted_keeping w (Popup n) (λ k. refl))

-- ---- Assign_ONU-ID

pub nobody_left : (w : Watch) (n : ℕ) → get (watch_without w (λ k. k == n)).seen.holder n ≡ None
nobody_left w n = dropped_at w.seen.holder (λ k. k == n) n ∙ ap (λ b. cond b None (get w.seen.holder n)) (eq-eqb n n refl)

pub none_left : (w : Watch) (s : Serial) (gone : ℕ → Bool) (k : ℕ) → is_of (watch_without (watch_without w (is_of w.seen s)) gone).seen s k ≡ false
none_left w s gone k =
    ap (some_passes (λ t. same_serial s t))
    (dropped_at (watch_without w (is_of w.seen s)).seen.holder gone k ∙ ap (cond (gone k) None) (dropped_at w.seen.holder (is_of w.seen s) k))
    ∙ by_gone (gone k) (get w.seen.holder k)
  where
    by_own : (b : Bool) (t : Serial) → same_serial s t ≡ b → some_passes (λ x. same_serial s x) (cond b None (Some t)) ≡ false
    by_own true t e = refl
    by_own false t e = e

    by_gone : (b : Bool) (o : Option Serial) → some_passes (λ t. same_serial s t) (cond b None (cond (some_passes (λ t. same_serial s t) o) None o)) ≡ false
    by_gone true o = refl
    by_gone false None = refl
    by_gone false (Some t) = by_own (same_serial s t) t refl

or_turned : (b c : Bool) → (b || c) ≡ (c || b)
or_turned true true = refl
or_turned true false = refl
or_turned false true = refl
or_turned false false = refl

-- what its unit held is given up, and then the ONU-ID itself
pub both_given_up : (w : Watch) (n : ℕ) (s : Serial) → n ≤ 253
    → watch_without (watch_without w (is_of w.seen s)) (λ k. k == n) ≡ watch_without w (drops w.seen (AssignOnu n s))
both_given_up w n s low =
    without_twice w (is_of w.seen s) (λ k. k == n)
    ∙ without_same w _ _ (λ k. or_turned (is_of w.seen s k) (k == n) ∙ sym (ap (λ b. b && (k == n || is_of w.seen s k)) (le-leb n 253 low)))

module _ (w : Watch) (s : Serial) (change : ℕ → ℕ) where
  -- who can be followed is followed
  pub followed_after : can_follow w s ≡ true → is_some (get (asks_with w s change) s) ≡ true
  followed_after can = by_left (asks_left w s) can
    where
      by_left : (o : Option ℕ) → is_some o ≡ true → is_some (get (asks_put w.asks s (option_map change o)) s) ≡ true
      by_left None h = cc h
      by_left (Some a) h = ap is_some (get-insert_same w.asks s (change a))

module _ (w : Watch) (n : ℕ) (s : Serial) where
  abbrev gone : ℕ → Bool
  gone = drops w.seen (AssignOnu n s)

  abbrev left : Observed
  left = units_without w.seen gone

  abbrev asked : Watch
  asked = record w { asks = asks_with w s (λ asks. asks - 1) }

  pub noted_low : n ≤ 253 → (b : Bool) → b ≡ can_follow w s → watch_assigned asked n s b ≡ noted w (AssignOnu n s)
  noted_low low b can = by_followed b can
    where
      unit : is_unit_number n ≡ true
      unit = le-leb n 253 low

      by_followed : (b : Bool) → b ≡ can_follow w s → watch_assigned asked n s b ≡ noted w (AssignOnu n s)
      by_followed true is =
          sym (λ i. record (noted w (AssignOnu n s)) {
            seen = (ap (λ b. cond b (with_holder left n s) left) (sym is) ∙ ap (λ b. cond b (record left { holder = insert left.holder n s }) left) unit) i;
            unknown = (ap (λ b. cond b (cond (can_follow w s) (finset.remove w.unknown n) (finset.insert w.unknown n)) w.unknown) unit ∙ ap (λ b. cond b (finset.remove w.unknown n) (finset.insert w.unknown n)) (sym is)) i;
          })
      by_followed false is =
          sym (λ i. record (noted w (AssignOnu n s)) {
            seen = ap (λ b. cond b (with_holder left n s) left) (sym is) i;
            unknown = (ap (λ b. cond b (cond (can_follow w s) (finset.remove w.unknown n) (finset.insert w.unknown n)) w.unknown) unit ∙ ap (λ b. cond b (finset.remove w.unknown n) (finset.insert w.unknown n)) (sym is)) i;
          })

  pub noted_high : is_unit_number n ≡ false → asked ≡ noted w (AssignOnu n s)
  noted_high high =
      sym (noted_keeping w (AssignOnu n s) none
      ∙ (λ i. record asked {
        seen = (all_same (can_follow w s) ∙ ap (λ (v : Watch). v.seen) (without_none w gone none)) i;
        unknown = ap (λ b. cond b (cond (can_follow w s) (finset.remove w.unknown n) (finset.insert w.unknown n)) w.unknown) high i;
      }))
    where
      none : (k : ℕ) → gone k ≡ false
      none k = ap (λ b. b && (k == n || is_of w.seen s k)) high

      all_same : (b : Bool) → cond b (with_holder left n s) left ≡ left
      all_same true = ap (λ b. cond b (record left { holder = insert left.holder n s }) left) high
      all_same false = refl

-- ---- Disable_Serial_Number

module _ (w : Watch) (s : Serial) where
  abbrev held : Observed
  held = units_without w.seen (is_of w.seen s)

  abbrev heeded : Watch
  heeded = watch_without (record w { asks = asks_with w s (λ asks. asks) }) (is_of w.seen s)

  abbrev barred : Observed
  barred = record held { disabled = finset.insert w.seen.disabled s }

  pub noted_followed : true ≡ can_follow w s → record heeded { seen = barred } ≡ noted w (DisableSerial s)
  noted_followed can = sym (λ i. record (noted w (DisableSerial s)) { seen = ap (λ b. cond b barred w.seen) (sym can) i })

  pub noted_unfollowed : false ≡ can_follow w s → ((k : ℕ) → is_of w.seen s k ≡ false) → heeded ≡ noted w (DisableSerial s)
  noted_unfollowed can none =
      sym (λ i. record (noted w (DisableSerial s)) { seen = (ap (λ b. cond b barred w.seen) (sym can) ∙ sym (ap (λ (v : Watch). v.seen) (without_none w (is_of w.seen s) none))) i })

pub above : (n : ℕ) → 254 ≤ n → is_unit_number n ≡ false
above n high = lt-leb n 253 (omega (arith, high))
