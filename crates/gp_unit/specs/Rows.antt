-- The row of a unit, and what becomes of it: one small function for each change (G.984.3, clause 10; the counts and the
-- further Alloc-IDs are this profile's own rule).
use Rattle.std.specs.Prelude.{ℕ, ◌+◌, ◌==◌, ◌||◌, Bool, true, false, if◌then◌else◌, Option, None, Some, is_some}
use Rattle.std.specs.FinMap.{get, insert, remove, empty}
use Rattle.gp_alarms.specs.declared.poll.PollCounts.{PollCounts}
use Rattle.gp_alarms.specs.declared.poll.Outcome.{Outcome}
use Rattle.gp_alarms.specs.declared.alarm.AlarmKind.{AlarmKind}
use Rattle.gp_alarms.specs.Poll.{counts_after, alarm_of}
use Rattle.gp_unit.specs.declared.row.Phase.{Phase}
use Rattle.gp_unit.specs.declared.row.Phase.TheVariants.{Ranging, Operating}
use Rattle.gp_unit.specs.declared.row.Row.{Row}
-- ---- questions to a row

-- further Alloc-IDs, each with whether it is leaving
pub use Rattle.gp_pools.specs.Allocs.{AllocMap}

-- the unit has an ONU-ID, and its delay is still to be measured
abbrev pub is_ranging : Phase → Bool
is_ranging (Ranging attempts seen) = true
is_ranging (Operating eqd dark garbled) = false

-- the unit has its equalization delay
abbrev pub is_operating : Phase → Bool
is_operating (Ranging attempts seen) = false
is_operating (Operating eqd dark garbled) = true

-- the unit has this further Alloc-ID, held or leaving
abbrev pub has_alloc : ℕ → Row → Bool
has_alloc alloc row = is_some (get row.allocs alloc)

-- an Alloc-ID that a unit may have is held, and not leaving
abbrev pub is_held : Option Bool → Bool
is_held None = false
is_held (Some true) = false
is_held (Some false) = true

-- the unit holds this further Alloc-ID
abbrev pub holds_alloc : ℕ → Row → Bool
holds_alloc alloc row = is_held (get row.allocs alloc)

-- ---- ranging

-- no ranging window has closed without a result
abbrev pub ranging_anew : Phase
ranging_anew = Ranging 0 false

-- a unit that has just been given this ONU-ID
abbrev pub new_row : ℕ → Row
new_row onu = record { onu = onu; allocs = empty; pending = None; waiting = 0; phase = Ranging 0 false }

-- a ranging window closed without a result: the unit is still ranging, or None where it was the second
abbrev pub row_unranged : Row → Bool → Phase → Option Row
row_unranged row heard (Ranging attempts seen) =
    if attempts == 1 then None else Some (record row { phase = Ranging (attempts + 1) (seen || heard) })
row_unranged row heard (Operating eqd dark garbled) = Some row

-- whether anything was heard of a unit while it was ranging
abbrev pub was_seen : Phase → Bool
was_seen (Ranging attempts seen) = seen
was_seen (Operating eqd dark garbled) = false

-- its delay was measured
abbrev pub row_measured : Row → ℕ → Row
row_measured row eqd = record row { phase = Operating eqd 0 0 }

-- ---- polls

-- what was counted of its poll windows
abbrev pub counts_in : Phase → ℕ → PollCounts
counts_in (Ranging attempts seen) waiting = record { dark = 0; garbled = 0; waiting = waiting }
counts_in (Operating eqd dark garbled) waiting = record { dark = dark; garbled = garbled; waiting = waiting }

-- what is counted after a poll window that ended so
abbrev pub counts_polled : Row → Outcome → PollCounts
counts_polled row outcome = counts_after (counts_in row.phase row.waiting) outcome (is_some row.pending)

-- the phase with these counts
abbrev pub phase_counted : Phase → PollCounts → Phase
phase_counted (Ranging attempts seen) counts = Ranging attempts seen
phase_counted (Operating eqd dark garbled) counts = Operating eqd counts.dark counts.garbled

-- the row with these counts
abbrev pub row_counted : Row → PollCounts → Row
row_counted row counts = record row { waiting = counts.waiting; phase = phase_counted row.phase counts }

-- a poll window ended so, and gave no alarm
abbrev pub row_polled : Row → Outcome → Row
row_polled row outcome = row_counted row (counts_polled row outcome)

-- the alarm that it gives
abbrev pub alarm_polled : Row → Outcome → Option AlarmKind
alarm_polled row outcome = alarm_of (counts_polled row outcome)

-- ---- further Alloc-IDs

-- a further Alloc-ID, which the unit has still to acknowledge
abbrev pub row_with_alloc : Row → ℕ → Row
row_with_alloc row alloc = record row { allocs = insert row.allocs alloc false; pending = Some alloc; waiting = 0 }

-- the unit is to give this one back, which it has still to acknowledge
abbrev pub row_releasing : Row → ℕ → Row
row_releasing row alloc = record row { allocs = insert row.allocs alloc true; pending = Some alloc; waiting = 0 }

-- the Alloc-IDs without this one, where it was leaving
abbrev pub allocs_left : AllocMap → ℕ → Option Bool → AllocMap
allocs_left allocs alloc (Some true) = remove allocs alloc
allocs_left allocs alloc _ = allocs

-- the unit acknowledged the pending one: it holds it, or has given it back
abbrev pub row_acknowledged : Row → ℕ → Row
row_acknowledged row alloc =
    record row { allocs = allocs_left row.allocs alloc (get row.allocs alloc); pending = None; waiting = 0 }

-- ---- POPUP

-- an operating unit ranges anew, and keeps its Alloc-IDs
abbrev pub row_popped_up : Row → Phase → Row
row_popped_up row (Ranging attempts seen) = row
row_popped_up row (Operating eqd dark garbled) = record row { phase = Ranging 0 false }
