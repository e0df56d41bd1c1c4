-- What becomes of a sound row is sound.
use Rattle.std.proofs.Common.{◌≡◌, ℕ, ◌+◌, ◌-◌, ◌≤◌, ◌==◌, Bool, true, false, cond, Option, None, Some, ◌⊎◌, inl, inr, ⊎_elim, refl, sym, ap, subst, ◌∙◌, arith, is_some, ◌||◌}
use Rattle.std.specs.Ordering.{nat_cmp}
use Rattle.std.specs.FinMap.{get, insert, remove, len, empty, len-empty, len-remove}
use Rattle.std.proofs.lemmas.Bool.{false≢true, eqb-false}
use Rattle.std.proofs.lemmas.Cmp.{nat_cmp_total}
use Rattle.gp_alarms.specs.declared.poll.PollCounts.{PollCounts}
use Rattle.gp_alarms.specs.declared.poll.Outcome.{Outcome}
use Rattle.gp_alarms.specs.declared.poll.Outcome.TheVariants.{Good, Garbled, Dark, Gasped, Acked}
use Rattle.gp_alarms.specs.declared.alarm.AlarmKind.{AlarmKind}
use Rattle.gp_alarms.specs.declared.alarm.AlarmKind.TheVariants.{Los, Loam, Loa}
use Rattle.gp_alarms.specs.Poll.{IsBelowEachLimit, counts_after, alarm_of}
use Rattle.gp_unit.specs.declared.row.Phase.{Phase}
use Rattle.gp_unit.specs.declared.row.Phase.TheVariants.{Ranging, Operating}
use Rattle.gp_unit.specs.declared.row.Row.{Row}
use Rattle.gp_unit.specs.Rows.{AllocMap, is_ranging, has_alloc, is_held, holds_alloc, new_row, row_unranged, row_measured, counts_in, counts_polled, phase_counted, row_counted, row_polled, alarm_polled, row_with_alloc, row_releasing, allocs_left, row_acknowledged, row_popped_up}
use Rattle.gp_unit.specs.Sound.{IsCounted, IsSoundPending, IsSoundRow}
use Rattle.gp_unit.proofs.AllocMaps.{none_some, same_value, alloc_put, alloc_it, alloc_left, len_new, len_known, no_alloc}

-- ---- the phase

pub sound_phase : (last : ℕ) (row : Row) (phase : Phase) → IsSoundRow last row → IsCounted phase → IsSoundRow last (record row { phase = phase })
sound_phase last row phase h counted = record { low = h.low; ranged = h.ranged; few = h.few; pending = h.pending; counted = counted }

pub sound_new : (last n : ℕ) → n ≤ 253 → IsSoundRow last (new_row n)
sound_new last n low =
    record {
      low = low;
      ranged = λ a v h. absurd (no_alloc a v h);
      few = subst (λ (k : ℕ). k ≤ 8) (sym (len-empty nat_cmp Bool)) (omega arith);
      pending = (refl, λ a h. absurd (no_alloc a true h));
      counted = omega arith;
    }

pub sound_measured : (last : ℕ) (row : Row) (eqd : ℕ) → IsSoundRow last row → IsSoundRow last (row_measured row eqd)
sound_measured last row eqd h = sound_phase last row (Operating eqd 0 0) h (omega arith, omega arith)

-- the unit is the same one, with the same numbers, and is in a phase of the same kind
pub record IsStill (row new : Row) : Type 0 where
  pub onu : new.onu ≡ row.onu
  pub allocs : new.allocs ≡ row.allocs
  pub kind : is_ranging new.phase ≡ is_ranging row.phase

some_row : (row other : Row) → Some row ≡ Some other → row ≡ other
some_row row other h = cc

none_row : (row : Row) → None ≡ Some row → ⊥
none_row row h = cc

-- a unit that ranges again
pub sound_unranged : (last : ℕ) (row new : Row) (heard : Bool) → IsSoundRow last row → row_unranged row heard row.phase ≡ Some new → IsSoundRow last new × IsStill row new
sound_unranged last row new heard h is = by_phase row.phase refl is
  where
    by_test : (attempts : ℕ) (seen : Bool) → row.phase ≡ Ranging attempts seen → (b : Bool) → (attempts == 1) ≡ b → cond b None (Some (record row { phase = Ranging (attempts + 1) (seen || heard) })) ≡ Some new
        → IsSoundRow last new × IsStill row new
    by_test attempts seen at true last_one e = absurd (none_row new e)
    by_test attempts seen at false more e =
        let most : attempts ≤ 1 = subst IsCounted at h.counted in
        let differs = eqb-false attempts 1 more in
        let counted : attempts + 1 ≤ 1 = below attempts most differs in
        let same = some_row _ new e in
        subst (λ (r : Row). IsSoundRow last r × IsStill row r) same
        (sound_phase last row (Ranging (attempts + 1) (seen || heard)) h counted, record { onu = refl; allocs = refl; kind = ap is_ranging (sym at) })
      where
        below : (n : ℕ) → n ≤ 1 → (n ≡ 1 → ⊥) → n + 1 ≤ 1
        below n most differs = omega (arith, differs)

    by_phase : (phase : Phase) → row.phase ≡ phase → row_unranged row heard phase ≡ Some new → IsSoundRow last new × IsStill row new
    by_phase (Ranging attempts seen) at e = by_test attempts seen at (attempts == 1) refl e
    by_phase (Operating eqd dark garbled) at e = subst (λ (r : Row). IsSoundRow last r × IsStill row r) (some_row row new e) (h, record { onu = refl; allocs = refl; kind = refl })

-- ---- polls

phase_kind : (phase : Phase) (counts : PollCounts) → is_ranging (phase_counted phase counts) ≡ is_ranging phase
phase_kind (Ranging attempts seen) counts = refl
phase_kind (Operating eqd dark garbled) counts = refl

pub counted_still : (row : Row) (counts : PollCounts) → IsStill row (row_counted row counts)
counted_still row counts = record { onu = refl; allocs = refl; kind = phase_kind row.phase counts }

phase_sound : (phase : Phase) (counts : PollCounts) → IsCounted phase → counts.dark ≤ 3 → counts.garbled ≤ 2 → IsCounted (phase_counted phase counts)
phase_sound (Ranging attempts seen) counts h dark garbled = h
phase_sound (Operating eqd dark_before garbled_before) counts h dark garbled = (dark, garbled)

sound_counted : (last : ℕ) (row : Row) (counts : PollCounts) → IsSoundRow last row → counts.dark ≤ 3 → counts.garbled ≤ 2 → IsSoundPending row.allocs row.pending counts.waiting → IsSoundRow last (row_counted row counts)
sound_counted last row counts h dark garbled pending =
    record { low = h.low; ranged = h.ranged; few = h.few; pending = pending; counted = phase_sound row.phase counts h.counted dark garbled }

-- no count is at its limit where there is no alarm
abbrev NoneAtLimit : PollCounts → Type 0
NoneAtLimit counts = (counts.dark ≡ 4 → ⊥) × (counts.garbled ≡ 3 → ⊥) × (counts.waiting ≡ 3 → ⊥)

none_at_limit : (counts : PollCounts) → alarm_of counts ≡ None → NoneAtLimit counts
none_at_limit counts h = by_dark (counts.dark == 4) refl h
  where
    none_kind : (kind : AlarmKind) → ◌≡◌ {A = Option AlarmKind} (Some kind) None → ⊥
    none_kind kind e = cc

    by_waiting : (counts.dark ≡ 4 → ⊥) → (counts.garbled ≡ 3 → ⊥) → (b : Bool) → (counts.waiting == 3) ≡ b → cond b (Some Loa) None ≡ None → NoneAtLimit counts
    by_waiting dark garbled true is e = absurd (none_kind Loa e)
    by_waiting dark garbled false is e = (dark, garbled, eqb-false counts.waiting 3 is)

    by_garbled : (counts.dark ≡ 4 → ⊥) → (b : Bool) → (counts.garbled == 3) ≡ b → cond b (Some Loam) (cond (counts.waiting == 3) (Some Loa) None) ≡ None → NoneAtLimit counts
    by_garbled dark true is e = absurd (none_kind Loam e)
    by_garbled dark false is e = by_waiting dark (eqb-false counts.garbled 3 is) (counts.waiting == 3) refl e

    by_dark : (b : Bool) → (counts.dark == 4) ≡ b → cond b (Some Los) (cond (counts.garbled == 3) (Some Loam) (cond (counts.waiting == 3) (Some Loa) None)) ≡ None → NoneAtLimit counts
    by_dark true is e = absurd (none_kind Los e)
    by_dark false is e = by_garbled (eqb-false counts.dark 4 is) (counts.garbled == 3) refl e

low_counts : (phase : Phase) (waiting : ℕ) → IsCounted phase → ((counts_in phase waiting).dark ≤ 3) × ((counts_in phase waiting).garbled ≤ 2)
low_counts (Ranging attempts seen) waiting h = (omega arith, omega arith)
low_counts (Operating eqd dark garbled) waiting h = h

same_waiting : (phase : Phase) (waiting : ℕ) → (counts_in phase waiting).waiting ≡ waiting
same_waiting (Ranging attempts seen) waiting = refl
same_waiting (Operating eqd dark garbled) waiting = refl

below_four : (n : ℕ) → n ≤ 3 → (n + 1 ≡ 4 → ⊥) → n + 1 ≤ 3
below_four n most differs = omega (arith, differs)

below_three : (n : ℕ) → n ≤ 2 → (n + 1 ≡ 3 → ⊥) → n + 1 ≤ 2
below_three n most differs = omega (arith, differs)

dark_low : (counts : PollCounts) (outcome : Outcome) (pending : Bool) → counts.dark ≤ 3 → ((counts_after counts outcome pending).dark ≡ 4 → ⊥) → (counts_after counts outcome pending).dark ≤ 3
dark_low counts Dark pending low differs = below_four counts.dark low differs
dark_low counts Garbled pending low differs = omega arith
dark_low counts Good pending low differs = omega arith
dark_low counts Gasped pending low differs = omega arith
dark_low counts Acked pending low differs = omega arith

garbled_low : (counts : PollCounts) (outcome : Outcome) (pending : Bool) → counts.garbled ≤ 2 → ((counts_after counts outcome pending).garbled ≡ 3 → ⊥) → (counts_after counts outcome pending).garbled ≤ 2
garbled_low counts Garbled pending low differs = below_three counts.garbled low differs
garbled_low counts Dark pending low differs = low
garbled_low counts Good pending low differs = omega arith
garbled_low counts Gasped pending low differs = omega arith
garbled_low counts Acked pending low differs = omega arith

-- what is pending, after a window that ended so
pending_after : (allocs : AllocMap) (pending : Option ℕ) (counts : PollCounts) (outcome : Outcome) → IsSoundPending allocs pending counts.waiting → ((counts_after counts outcome (is_some pending)).waiting ≡ 3 → ⊥)
    → IsSoundPending allocs pending (counts_after counts outcome (is_some pending)).waiting
pending_after allocs None counts Good h differs = h
pending_after allocs None counts Garbled h differs = h
pending_after allocs None counts Dark h differs = h
pending_after allocs None counts Gasped h differs = h
pending_after allocs None counts Acked h differs = (refl, h.1)
pending_after allocs (Some a) counts Good h differs = (below_three counts.waiting h.0 differs, h.1, h.2)
pending_after allocs (Some a) counts Garbled h differs = (below_three counts.waiting h.0 differs, h.1, h.2)
pending_after allocs (Some a) counts Dark h differs = (below_three counts.waiting h.0 differs, h.1, h.2)
pending_after allocs (Some a) counts Gasped h differs = h
pending_after allocs (Some a) counts Acked h differs = (omega arith, h.1, h.2)

-- a poll window that gives no alarm
pub sound_polled : (last : ℕ) (row : Row) (outcome : Outcome) → IsSoundRow last row → alarm_polled row outcome ≡ None → IsSoundRow last (row_polled row outcome)
sound_polled last row outcome h silent =
    let counts = counts_in row.phase row.waiting in
    let limits = none_at_limit (counts_polled row outcome) silent in
    let low = low_counts row.phase row.waiting h.counted in
    let waits : IsSoundPending row.allocs row.pending counts.waiting = subst (λ (k : ℕ). IsSoundPending row.allocs row.pending k) (sym (same_waiting row.phase row.waiting)) h.pending in
    sound_counted last row (counts_polled row outcome) h
    (dark_low counts outcome (is_some row.pending) low.0 limits.0)
    (garbled_low counts outcome (is_some row.pending) low.1 limits.1)
    (pending_after row.allocs row.pending counts outcome waits limits.2)

-- a Dying_Gasp
pub sound_gasped : (last : ℕ) (row : Row) → IsSoundRow last row → IsSoundRow last (row_polled row Gasped)
sound_gasped last row h =
    sound_counted last row (counts_polled row Gasped) h (omega arith) (omega arith)
    (subst (λ (k : ℕ). IsSoundPending row.allocs row.pending k) (sym (same_waiting row.phase row.waiting)) h.pending)

-- an Acknowledge
pub sound_acked : (last : ℕ) (row : Row) → IsSoundRow last row → IsSoundRow last (row_polled row Acked)
sound_acked last row h =
    sound_counted last row (counts_polled row Acked) h (omega arith) (omega arith)
    (pending_after row.allocs row.pending (counts_in row.phase row.waiting) Acked
    (subst (λ (k : ℕ). IsSoundPending row.allocs row.pending k) (sym (same_waiting row.phase row.waiting)) h.pending) (λ e. omega (arith, e)))

waits_little : (allocs : AllocMap) (pending : Option ℕ) (waiting : ℕ) → IsSoundPending allocs pending waiting → waiting ≤ 2
waits_little allocs None waiting h = let none = h.0 in omega arith
waits_little allocs (Some a) waiting h = h.0

-- what waking a record asks
pub few_waits : (last : ℕ) (row : Row) → IsSoundRow last row → row.waiting ≤ 2
few_waits last row h = waits_little row.allocs row.pending row.waiting h.pending

-- no count of a sound row is at its limit
pub below_limits : (last : ℕ) (row : Row) → IsSoundRow last row → IsBelowEachLimit (counts_in row.phase row.waiting)
below_limits last row h =
    let low = low_counts row.phase row.waiting h.counted in
    let few = waits_little row.allocs row.pending row.waiting h.pending in
    let same = same_waiting row.phase row.waiting in
    let dark = low.0 in
    let garbled = low.1 in
    record { dark = omega arith; garbled = omega arith; waiting = omega arith }

-- ---- further Alloc-IDs

known : (o : Option Bool) → is_some o ≡ true → (v : Bool) × (o ≡ Some v)
known None h = absurd (false≢true h)
known (Some v) h = (v, refl)

pub is_known : (o : Option Bool) (v : Bool) → o ≡ Some v → is_some o ≡ true
is_known o v h = ap is_some h

unknown : (o : Option Bool) → is_some o ≡ false → o ≡ None
unknown None h = refl
unknown (Some v) h = absurd (false≢true (sym h))

not_true : Some false ≡ Some true → ⊥
not_true h = false≢true (same_value false true h)

-- with nothing pending nothing is leaving
none_leaving : (row : Row) (last : ℕ) → IsSoundRow last row → row.pending ≡ None → (b : ℕ) → get row.allocs b ≡ Some true → ⊥
none_leaving row last h none b = (subst (λ (o : Option ℕ). IsSoundPending row.allocs o row.waiting) none h.pending).1 b

-- an Alloc-ID more
pub sound_with_alloc : (last : ℕ) (row : Row) (a : ℕ) → IsSoundRow last row → row.pending ≡ None → (len row.allocs == 8) ≡ false → 256 ≤ a → a ≤ last → has_alloc a row ≡ false → IsSoundRow last (row_with_alloc row a)
sound_with_alloc last row a h none room above below free =
    record {
      low = h.low;
      ranged = λ b v is.
          ⊎_elim (λ (x : (b ≡ a) × (false ≡ v)). subst (λ (k : ℕ). (256 ≤ k) × (k ≤ last)) (sym x.0) (above, below)) (λ (x : get row.allocs b ≡ Some v). h.ranged b v x)
          (alloc_put row.allocs a false b v is);
      few = subst (λ (k : ℕ). k ≤ 8) (sym (len_new row.allocs a false (unknown (get row.allocs a) free))) (one_more (len row.allocs) h.few (eqb-false (len row.allocs) 8 room));
      pending = (
        omega arith,
        (false, alloc_it row.allocs a false),
        λ b is.
            ⊎_elim (λ (x : (b ≡ a) × (false ≡ true)). x.0) (λ (x : get row.allocs b ≡ Some true). absurd (none_leaving row last h none b x)) (alloc_put row.allocs a false b true is),
      );
      counted = h.counted;
    }
  where
    one_more : (n : ℕ) → n ≤ 8 → (n ≡ 8 → ⊥) → n + 1 ≤ 8
    one_more n most differs = omega (arith, differs)

held : (o : Option Bool) → is_held o ≡ true → o ≡ Some false
held None h = absurd (false≢true h)
held (Some true) h = absurd (false≢true h)
held (Some false) h = refl

-- one of its Alloc-IDs is leaving
pub sound_releasing : (last : ℕ) (row : Row) (a : ℕ) → IsSoundRow last row → row.pending ≡ None → holds_alloc a row ≡ true → IsSoundRow last (row_releasing row a)
sound_releasing last row a h none holds =
    let has = held (get row.allocs a) holds in
    record {
      low = h.low;
      ranged = λ b v is.
          ⊎_elim (λ (x : (b ≡ a) × (true ≡ v)). subst (λ (k : ℕ). (256 ≤ k) × (k ≤ last)) (sym x.0) (h.ranged a false has)) (λ (x : get row.allocs b ≡ Some v). h.ranged b v x)
          (alloc_put row.allocs a true b v is);
      few = subst (λ (k : ℕ). k ≤ 8) (sym (len_known row.allocs a true false has)) h.few;
      pending = (
        omega arith,
        (true, alloc_it row.allocs a true),
        λ b is.
            ⊎_elim (λ (x : (b ≡ a) × (true ≡ true)). x.0) (λ (x : get row.allocs b ≡ Some true). absurd (none_leaving row last h none b x)) (alloc_put row.allocs a true b true is),
      );
      counted = h.counted;
    }

-- the pending one was acknowledged
left_sound : (last : ℕ) (row : Row) (a : ℕ) → IsSoundRow last row → row.pending ≡ Some a → (o : Option Bool) → get row.allocs a ≡ o → IsSoundRow last (record row { allocs = allocs_left row.allocs a o; pending = None; waiting = 0 })
left_sound last row a h pending o at = by_state o at
  where
    only : (b : ℕ) → get row.allocs b ≡ Some true → b ≡ a
    only = (subst (λ (p : Option ℕ). IsSoundPending row.allocs p row.waiting) pending h.pending).2

    stays : (get row.allocs a ≡ Some true → ⊥) → IsSoundRow last (record row { pending = None; waiting = 0 })
    stays not_leaving =
        record {
          low = h.low;
          ranged = h.ranged;
          few = h.few;
          pending = (refl, λ b is. not_leaving (subst (λ (k : ℕ). get row.allocs k ≡ Some true) (only b is) is));
          counted = h.counted;
        }

    fewer : len (remove row.allocs a) ≤ 8
    fewer = let before = h.few in subst (λ (k : ℕ). k ≤ 8) (sym (len-remove nat_cmp_total row.allocs a)) (by_known (is_some (get row.allocs a)) (len row.allocs) before)
      where
        by_known : (b : Bool) (n : ℕ) → n ≤ 8 → cond b (n - 1) n ≤ 8
        by_known true n most = omega arith
        by_known false n most = most

    by_state : (o : Option Bool) → get row.allocs a ≡ o → IsSoundRow last (record row { allocs = allocs_left row.allocs a o; pending = None; waiting = 0 })
    by_state None is = stays (λ leaving. none_some true (sym is ∙ leaving))
    by_state (Some false) is = stays (λ leaving. not_true (sym is ∙ leaving))
    by_state (Some true) is =
        record {
          low = h.low;
          ranged = λ b v has. h.ranged b v (alloc_left row.allocs a b v has).1;
          few = fewer;
          pending = (refl, λ b has. let other = alloc_left row.allocs a b true has in other.0 (only b other.1));
          counted = h.counted;
        }

pub sound_acknowledged : (last : ℕ) (row : Row) (a : ℕ) → IsSoundRow last row → row.pending ≡ Some a → IsSoundRow last (row_acknowledged row a)
sound_acknowledged last row a h pending = left_sound last row a h pending (get row.allocs a) refl

-- which Alloc-IDs a row has then
pub has_with_alloc : (row : Row) (a b : ℕ) (v : Bool) → has_alloc b (record row { allocs = insert row.allocs a v }) ≡ true → (b ≡ a) ⊎ (has_alloc b row ≡ true)
has_with_alloc row a b v h =
    let there = known (get (insert row.allocs a v) b) h in
    ⊎_elim (λ (x : (b ≡ a) × (v ≡ there.0)). inl x.0) (λ (x : get row.allocs b ≡ Some there.0). inr (ap is_some x)) (alloc_put row.allocs a v b there.0 there.1)

pub has_acknowledged : (row : Row) (a b : ℕ) → has_alloc b (row_acknowledged row a) ≡ true → has_alloc b row ≡ true
has_acknowledged row a b h = by_state (get row.allocs a) h
  where
    by_state : (o : Option Bool) → is_some (get (allocs_left row.allocs a o) b) ≡ true → has_alloc b row ≡ true
    by_state None e = e
    by_state (Some false) e = e
    by_state (Some true) e = let there = known (get (remove row.allocs a) b) e in ap is_some (alloc_left row.allocs a b there.0 there.1).1

-- a row that holds an Alloc-ID has it
pub has_held : (row : Row) (a : ℕ) → holds_alloc a row ≡ true → has_alloc a row ≡ true
has_held row a h = ap is_some (held (get row.allocs a) h)

-- a new row has none
pub has_none : (n b : ℕ) → has_alloc b (new_row n) ≡ true → ⊥
has_none n b h = let there = known (get empty b) h in no_alloc b there.0 there.1

-- ---- POPUP

pub popped_onu : (row : Row) (phase : Phase) → (row_popped_up row phase).onu ≡ row.onu
popped_onu row (Ranging attempts seen) = refl
popped_onu row (Operating eqd dark garbled) = refl

pub popped_allocs : (row : Row) (phase : Phase) → (row_popped_up row phase).allocs ≡ row.allocs
popped_allocs row (Ranging attempts seen) = refl
popped_allocs row (Operating eqd dark garbled) = refl

pub sound_popped_up : (last : ℕ) (row : Row) (phase : Phase) → IsSoundRow last row → IsSoundRow last (row_popped_up row phase)
sound_popped_up last row (Ranging attempts seen) h = h
sound_popped_up last row (Operating eqd dark garbled) h = sound_phase last row (Ranging 0 false) h (omega arith)

-- a ranging unit stays as it is
pub popped_ranging : (row : Row) (phase : Phase) → is_ranging phase ≡ true → row_popped_up row phase ≡ row
popped_ranging row (Ranging attempts seen) h = refl
popped_ranging row (Operating eqd dark garbled) h = absurd (false≢true h)
