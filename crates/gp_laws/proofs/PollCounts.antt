-- What becomes of the counts of a row, and which alarm they give.
use Rattle.std.proofs.Common.{◌≡◌, ℕ, ◌+◌, ◌≤◌, ◌==◌, Bool, true, false, cond, Option, None, Some, inl, inr, refl, sym, ap, subst, arith, is_some, ◌||◌}
use Rattle.std.proofs.lemmas.Bool.{false≢true, cases_Bool, eqb-true}
use Rattle.gp_alarms.specs.declared.alarm.AlarmKind.TheVariants.{Loa}
use Rattle.gp_alarms.specs.declared.poll.Outcome.{Outcome}
use Rattle.gp_alarms.specs.declared.poll.Outcome.TheVariants.{Gasped, Acked}
use Rattle.gp_alarms.specs.Poll.{dark_after, garbled_after, waiting_after, counts_after}
use Rattle.gp_unit.specs.declared.row.Phase.{Phase}
use Rattle.gp_unit.specs.declared.row.Phase.TheVariants.{Ranging, Operating}
use Rattle.gp_unit.specs.declared.row.Row.{Row}
use Rattle.gp_unit.specs.Sound.{IsSoundPending, IsSoundRow}
use Rattle.gp_unit.specs.Rows.{AllocMap, is_ranging, new_row, row_unranged, row_measured, counts_in, phase_counted, row_polled, alarm_polled, row_with_alloc, row_releasing, row_acknowledged, row_popped_up}
use Rattle.gp_machine.proofs.Units.{one_row, not_none}

-- ---- a row after a step

-- a count after a window that ended so, if one did
abbrev pub count_after : (Outcome → ℕ → ℕ) → Option Outcome → ℕ → ℕ
count_after after None count = count
count_after after (Some ended) count = after ended count

-- the counts of a phase, new and old: where the unit operates in both they follow the window, and where it began to they are 0
abbrev pub CountPhase : Option Outcome → Phase → Phase → Type 0
CountPhase end (Ranging attempts seen) old = Unit {0}
CountPhase end (Operating eqd dark garbled) (Ranging attempts seen) = (dark ≡ 0) × (garbled ≡ 0)
CountPhase end (Operating eqd dark garbled) (Operating its_eqd its_dark its_garbled) =
    (dark ≡ count_after dark_after end its_dark) × (garbled ≡ count_after garbled_after end its_garbled)

-- no Alloc-ID was acknowledged
abbrev pub IsUnacked : Option Outcome → Type 0
IsUnacked None = Unit {0}
IsUnacked (Some Acked) = ⊥
IsUnacked (Some ended) = Unit {0}

-- the count of an Alloc-ID that is pending, new and old
abbrev pub CountPending : Option Outcome → Option ℕ → ℕ → Option ℕ → ℕ → Type 0
CountPending end None waiting old its_waiting = Unit {0}
CountPending end (Some alloc) waiting None its_waiting = waiting ≡ 0
CountPending end (Some alloc) waiting (Some old) its_waiting = IsUnacked end × (waiting ≡ count_after (λ ended count. waiting_after ended true count) end its_waiting)

pub record CountsRow (end : Option Outcome) (new old : Row) : Type 0 where
  pub onu : new.onu ≡ old.onu
  pub phase : CountPhase end new.phase old.phase
  pub pending : CountPending end new.pending new.waiting old.pending old.waiting

-- ---- what becomes of a row

same_phase : (phase : Phase) → CountPhase None phase phase
same_phase (Ranging attempts seen) = tt
same_phase (Operating eqd dark garbled) = (refl, refl)

same_pending : (pending : Option ℕ) (waiting : ℕ) → CountPending None pending waiting pending waiting
same_pending None waiting = tt
same_pending (Some alloc) waiting = (tt, refl)

pub same_row : (row : Row) → CountsRow None row row
same_row row = record { onu = refl; phase = same_phase row.phase; pending = same_pending row.pending row.waiting }

polled_phase : (phase : Phase) (waiting : ℕ) (ended : Outcome) (pending : Bool) → CountPhase (Some ended) (phase_counted phase (counts_after (counts_in phase waiting) ended pending)) phase
polled_phase (Ranging attempts seen) waiting ended pending = tt
polled_phase (Operating eqd dark garbled) waiting ended pending = (refl, refl)

polled_pending : (phase : Phase) (waiting : ℕ) (ended : Outcome) (pending : Option ℕ) → IsUnacked (Some ended)
    → CountPending (Some ended) pending (waiting_after ended (is_some pending) (counts_in phase waiting).waiting) pending waiting
polled_pending phase waiting ended None unacked = tt
polled_pending (Ranging attempts seen) waiting ended (Some alloc) unacked = (unacked, refl)
polled_pending (Operating eqd dark garbled) waiting ended (Some alloc) unacked = (unacked, refl)

pub polled_row : (row : Row) (ended : Outcome) → IsUnacked (Some ended) → CountsRow (Some ended) (row_polled row ended) row
polled_row row ended unacked =
    record { onu = refl; phase = polled_phase row.phase row.waiting ended (is_some row.pending); pending = polled_pending row.phase row.waiting ended row.pending unacked }

pub acknowledged_row : (row : Row) (alloc : ℕ) → CountsRow (Some Acked) (row_acknowledged (row_polled row Acked) alloc) row
acknowledged_row row alloc = record { onu = refl; phase = polled_phase row.phase row.waiting Acked (is_some row.pending); pending = tt }

pub restarted_row : (row : Row) → CountsRow None (new_row row.onu) row
restarted_row row = record { onu = refl; phase = tt; pending = tt }

begun_phase : (eqd : ℕ) (phase : Phase) → is_ranging phase ≡ true → CountPhase None (Operating eqd 0 0) phase
begun_phase eqd (Ranging attempts seen) is = (refl, refl)
begun_phase eqd (Operating its_eqd dark garbled) is = absurd (false≢true is)

pub measured_row : (row : Row) (eqd : ℕ) → is_ranging row.phase ≡ true → CountsRow None (row_measured row eqd) row
measured_row row eqd is = record { onu = refl; phase = begun_phase eqd row.phase is; pending = same_pending row.pending row.waiting }

pub unranged_row : (row again : Row) (heard : Bool) (phase : Phase) → row_unranged row heard phase ≡ Some again → CountsRow None again row
unranged_row row again heard (Operating eqd dark garbled) is = subst (λ (r : Row). CountsRow None r row) (one_row row again is) (same_row row)
unranged_row row again heard (Ranging attempts seen) is = by_count (attempts == 1) is
  where
    by_count : (b : Bool) → cond b None (Some (record row { phase = Ranging (attempts + 1) (seen || heard) })) ≡ Some again → CountsRow None again row
    by_count true e = absurd (not_none again e)
    by_count false e =
        subst (λ (r : Row). CountsRow None r row) (one_row (record row { phase = Ranging (attempts + 1) (seen || heard) }) again e)
        (record { onu = refl; phase = tt; pending = same_pending row.pending row.waiting })

new_pending : (alloc : ℕ) (pending : Option ℕ) (waiting : ℕ) → is_some pending ≡ false → CountPending None (Some alloc) 0 pending waiting
new_pending alloc None waiting none = refl
new_pending alloc (Some old) waiting none = absurd (false≢true (sym none))

pub alloc_row : (row : Row) (alloc : ℕ) → is_some row.pending ≡ false → CountsRow None (row_with_alloc row alloc) row
alloc_row row alloc none = record { onu = refl; phase = same_phase row.phase; pending = new_pending alloc row.pending row.waiting none }

pub releasing_row : (row : Row) (alloc : ℕ) → is_some row.pending ≡ false → CountsRow None (row_releasing row alloc) row
releasing_row row alloc none = record { onu = refl; phase = same_phase row.phase; pending = new_pending alloc row.pending row.waiting none }

pub popped_row : (row : Row) (phase : Phase) → CountsRow None (row_popped_up row phase) row
popped_row row (Ranging attempts seen) = same_row row
popped_row row (Operating eqd dark garbled) = record { onu = refl; phase = tt; pending = same_pending row.pending row.waiting }

-- ---- the alarm of a window

pub same_waiting : (phase : Phase) (waiting : ℕ) → (counts_in phase waiting).waiting ≡ waiting
same_waiting (Ranging attempts seen) waiting = refl
same_waiting (Operating eqd dark garbled) waiting = refl

-- an Acknowledge gives no alarm
pub acked_quiet : (row : Row) → alarm_polled row Acked ≡ None
acked_quiet row = refl

pub waits_little : (last : ℕ) (row : Row) → IsSoundRow last row → row.waiting ≤ 2
waits_little last row h = by_pending row.allocs row.pending row.waiting h.pending
  where
    by_pending : (allocs : AllocMap) (pending : Option ℕ) (waiting : ℕ) → IsSoundPending allocs pending waiting → waiting ≤ 2
    by_pending allocs None waiting h = let none = h.0 in omega arith
    by_pending allocs (Some alloc) waiting h = h.0

-- nor does a Dying_Gasp
pub gasped_quiet : (row : Row) (last : ℕ) → IsSoundRow last row → alarm_polled row Gasped ≡ None
gasped_quiet row last h =
    let low = waits_little last row h in
    let same = same_waiting row.phase row.waiting in
    elim (cases_Bool ((counts_in row.phase row.waiting).waiting == 3)) [
      | inl b ↦ let three = eqb-true (counts_in row.phase row.waiting).waiting 3 b in absurd (omega arith)
      | inr b ↦ ap (λ (x : Bool). cond x (Some Loa) None) b
    ]
