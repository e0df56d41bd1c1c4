-- What the end of a poll window does to the counts of its unit, and which alarm they give. LOS at four and LOAM at
-- three are G.984.3, clause 11; the count for LOA, what ends a count, and the order of the alarms are this profile's
-- own rule.
use Rattle.std.specs.Prelude.{ℕ, ◌+◌, ◌<◌, ◌==◌, if◌then◌else◌, Bool, Option, None, Some}
use Rattle.gp_alarms.specs.declared.alarm.AlarmKind.{AlarmKind}
use Rattle.gp_alarms.specs.declared.alarm.AlarmKind.TheVariants.{Los, Loam, Loa}
use Rattle.gp_alarms.specs.declared.poll.PollCounts.{PollCounts}
use Rattle.gp_alarms.specs.declared.poll.Outcome.{Outcome}
use Rattle.gp_alarms.specs.declared.poll.Outcome.TheVariants.{Good, Garbled, Dark, Gasped, Acked}

-- this many dark windows in a row give LOS
abbrev pub dark_limit : ℕ
dark_limit = 4

-- this many garbled windows with no message of the unit between give LOAM
abbrev pub garbled_limit : ℕ
garbled_limit = 3

-- this many windows without an Acknowledge of the pending Alloc-ID give LOA
abbrev pub waiting_limit : ℕ
waiting_limit = 3

-- no count is at its limit
pub record IsBelowEachLimit (counts : PollCounts) : Type 0 where
  pub dark : counts.dark < dark_limit
  pub garbled : counts.garbled < garbled_limit
  pub waiting : counts.waiting < waiting_limit

-- a dark window is counted, and every other ends the row of dark ones
abbrev pub dark_after : Outcome → ℕ → ℕ
dark_after Dark dark = dark + 1
dark_after Garbled dark = 0
dark_after Good dark = 0
dark_after Gasped dark = 0
dark_after Acked dark = 0

-- a garbled window is counted, a dark one changes nothing, and a message of the unit ends the count
abbrev pub garbled_after : Outcome → ℕ → ℕ
garbled_after Garbled garbled = garbled + 1
garbled_after Dark garbled = garbled
garbled_after Good garbled = 0
garbled_after Gasped garbled = 0
garbled_after Acked garbled = 0

-- while an Alloc-ID is pending each window counts, but that of a Dying_Gasp; its Acknowledge ends the count
abbrev pub waiting_after : Outcome → Bool → ℕ → ℕ
waiting_after Acked pending waiting = 0
waiting_after Gasped pending waiting = waiting
waiting_after Good pending waiting = if pending then waiting + 1 else waiting
waiting_after Garbled pending waiting = if pending then waiting + 1 else waiting
waiting_after Dark pending waiting = if pending then waiting + 1 else waiting

-- the counts after a window that ended so, where an Alloc-ID is pending or not
abbrev pub counts_after : PollCounts → Outcome → Bool → PollCounts
counts_after counts outcome pending = record {
  dark = dark_after outcome counts.dark;
  garbled = garbled_after outcome counts.garbled;
  waiting = waiting_after outcome pending counts.waiting;
}

-- the alarm of the first count that is at its limit: LOS, else LOAM, else LOA
abbrev pub alarm_of : PollCounts → Option AlarmKind
alarm_of counts =
    if counts.dark == dark_limit then Some Los
    else (if counts.garbled == garbled_limit then Some Loam
    else (if counts.waiting == waiting_limit then Some Loa else None))
