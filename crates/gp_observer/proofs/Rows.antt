-- Rows that look alike to an observer of the messages.
use Rattle.std.proofs.Common.{◌≡◌, ℕ, ◌+◌, ◌==◌, Bool, true, false, cond, Option, None, Some, inl, inr, refl, sym, ap, subst, ◌∙◌, ◌||◌}
use Rattle.std.specs.Ordering.{nat_cmp}
use Rattle.std.specs.FinMap.{get, remove, get-empty}
use Rattle.std.proofs.lemmas.Bool.{cases_eq}
use Rattle.gp_alarms.specs.declared.poll.PollCounts.{PollCounts}
use Rattle.gp_alarms.specs.declared.poll.Outcome.{Outcome}
use Rattle.gp_unit.specs.declared.row.Phase.{Phase}
use Rattle.gp_unit.specs.declared.row.Phase.TheVariants.{Ranging, Operating}
use Rattle.gp_unit.specs.declared.row.Row.{Row}
use Rattle.gp_unit.specs.Rows.{is_held, holds_alloc, new_row, row_unranged, counts_polled, row_polled, row_with_alloc, row_releasing, allocs_left, row_acknowledged, row_popped_up, phase_counted}
use Rattle.gp_unit.proofs.Kept.{popped_allocs}
use Rattle.gp_machine.proofs.Units.{one_row, not_none}
use Rattle.gp_observer.specs.Knows.{delay_of}
use Rattle.gp_observer.proofs.Listed.{put_same, put_other, removed_same, removed_other}

-- the same ONU-ID, the same Alloc-IDs held, the same delay
pub record IsAlike (old new : Row) : Type 0 where
  pub onu : new.onu ≡ old.onu
  pub allocs : (a : ℕ) → holds_alloc a new ≡ holds_alloc a old
  pub delay : delay_of new.phase ≡ delay_of old.phase

-- a new row holds no Alloc-ID
pub new_holds_none : (n a : ℕ) → holds_alloc a (new_row n) ≡ false
new_holds_none n a = ap is_held (get-empty nat_cmp a)

counted_delay : (phase : Phase) (counts : PollCounts) → delay_of (phase_counted phase counts) ≡ delay_of phase
counted_delay (Ranging attempts seen) counts = refl
counted_delay (Operating eqd dark garbled) counts = refl

pub polled_alike : (row : Row) (outcome : Outcome) → IsAlike row (row_polled row outcome)
polled_alike row outcome = record { onu = refl; allocs = λ a. refl; delay = counted_delay row.phase (counts_polled row outcome) }

pub unranged_alike : (row again : Row) (heard : Bool) → row_unranged row heard row.phase ≡ Some again → IsAlike row again
unranged_alike row again heard is = by_phase row.phase refl is
  where
    by_count : (attempts : ℕ) (seen : Bool) → row.phase ≡ Ranging attempts seen → (b : Bool) → cond b None (Some (record row { phase = Ranging (attempts + 1) (seen || heard) })) ≡ Some again → IsAlike row again
    by_count attempts seen at true e = absurd (not_none again e)
    by_count attempts seen at false e =
        subst (λ (r : Row). IsAlike row r) (one_row _ again e)
        (record { onu = refl; allocs = λ a. refl; delay = sym (ap delay_of at) })

    by_phase : (phase : Phase) → row.phase ≡ phase → row_unranged row heard phase ≡ Some again → IsAlike row again
    by_phase (Ranging attempts seen) at e = by_count attempts seen at (attempts == 1) e
    by_phase (Operating eqd dark garbled) at e = subst (λ (r : Row). IsAlike row r) (one_row row again e) (record { onu = refl; allocs = λ a. refl; delay = refl })

-- an Acknowledge changes nothing that is held: what is taken out was leaving
pub acknowledged_alike : (row : Row) (a : ℕ) → IsAlike row (row_acknowledged row a)
acknowledged_alike row a = record { onu = refl; allocs = λ b. by_state b (get row.allocs a) refl; delay = refl }
  where
    by_state : (b : ℕ) (o : Option Bool) → get row.allocs a ≡ o → is_held (get (allocs_left row.allocs a o) b) ≡ is_held (get row.allocs b)
    by_state b None is = refl
    by_state b (Some false) is = refl
    by_state b (Some true) is =
        elim (cases_eq b a) [
          | inl same ↦
              ap (λ k. is_held (get (remove row.allocs a) k)) same ∙ ap is_held (removed_same row.allocs a) ∙ sym (ap is_held is) ∙ sym (ap (λ k. is_held (get row.allocs k)) same)
          | inr other ↦ ap is_held (removed_other row.allocs a b other)
        ]

pub alike_both : (a b c : Row) → IsAlike a b → IsAlike b c → IsAlike a c
alike_both a b c h k = record { onu = k.onu ∙ h.onu; allocs = λ x. k.allocs x ∙ h.allocs x; delay = k.delay ∙ h.delay }

-- a further Alloc-ID
pub with_holds : (row : Row) (a : ℕ) → holds_alloc a (row_with_alloc row a) ≡ true
with_holds row a = ap is_held (put_same row.allocs a false)

pub with_others : (row : Row) (a b : ℕ) → (b ≡ a → ⊥) → holds_alloc b (row_with_alloc row a) ≡ holds_alloc b row
with_others row a b other = ap is_held (put_other row.allocs a false b other)

pub releasing_holds : (row : Row) (a : ℕ) → holds_alloc a (row_releasing row a) ≡ false
releasing_holds row a = ap is_held (put_same row.allocs a true)

pub releasing_others : (row : Row) (a b : ℕ) → (b ≡ a → ⊥) → holds_alloc b (row_releasing row a) ≡ holds_alloc b row
releasing_others row a b other = ap is_held (put_other row.allocs a true b other)

-- after POPUP of all
pub popped_holds : (row : Row) (a : ℕ) → holds_alloc a (row_popped_up row row.phase) ≡ holds_alloc a row
popped_holds row a = ap (λ m. is_held (get m a)) (popped_allocs row row.phase)

pub popped_delay : (row : Row) → delay_of (row_popped_up row row.phase).phase ≡ None
popped_delay row = by_phase row.phase refl
  where
    by_phase : (phase : Phase) → row.phase ≡ phase → delay_of (row_popped_up row phase).phase ≡ None
    by_phase (Ranging attempts seen) at = ap delay_of at
    by_phase (Operating eqd dark garbled) at = refl
