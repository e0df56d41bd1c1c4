-- What is counted of a port and of its units by what its lines tell (this profile's own rule).
use Rattle.std.specs.Prelude.{ℕ, ◌+◌, ◌-◌, ◌^◌, ◌==◌, ltb, min, Bool, true, false, if◌then◌else◌, List, Option, None, Some, replicate, slice_get, slice_index, slice_set}
use Rattle.std.specs.FinMap.{FinMap, empty, get, insert, len}
use Rattle.std.specs.Option.{unwrap_or}
use Rattle.gp_alarms.specs.declared.alarm.Alarm.{Alarm}
use Rattle.gp_alarms.specs.declared.alarm.AlarmKind.{AlarmKind}
use Rattle.gp_alarms.specs.declared.alarm.AlarmKind.TheVariants.{Los, Loam, Loa, Suf, Df, Dg}
use Rattle.gp_ploam.specs.declared.message.Serial.{Serial}
use Rattle.gp_ploam.specs.declared.message.Up.{Up}
use Rattle.gp_ploam.specs.declared.message.Up.TheVariants.{SerialNumber}
use Rattle.gp_ploam.specs.OnuIds.{broadcast_onu, onu_ids}
use Rattle.gp_ploam.specs.Serials.{serial_cmp}
use Rattle.gp_ploam.specs.Up.{octet1_of}
use Rattle.gp_machine.specs.declared.refusal.Refusal.{Refusal}
use Rattle.gp_machine.specs.declared.refusal.Refusal.TheVariants.{Stray, Garbled, WrongWindow, NotAdmitted}
use Rattle.gp_machine.specs.Refusals.{refusal_number}
use Rattle.gp_tally.specs.declared.told.Answered.{Answered}
use Rattle.gp_tally.specs.declared.told.Happened.{Happened}
use Rattle.gp_tally.specs.declared.told.Happened.TheVariants.{Frame, Burst, Command}
use Rattle.gp_tally.specs.declared.told.Told.{Told}
use Rattle.gp_tally.specs.declared.counts.PortCounts.{PortCounts}
use Rattle.gp_tally.specs.declared.counts.UnitCounts.{UnitCounts}
use Rattle.gp_tally.specs.declared.counts.UnitEvent.{UnitEvent}
use Rattle.gp_tally.specs.declared.counts.UnitEvent.TheVariants.{Asks, Answers, IsFound, IsRanged, Raises}

-- one more, as far as 64 bits go
abbrev pub one_more : ℕ → ℕ
one_more count = min (count + 1) (2 ^ 64 - 1)

-- one more at a place
abbrev pub counted_at : List ℕ → ℕ → List ℕ
counted_at counts place = slice_set counts place (one_more (slice_index counts place))

-- the place of an alarm's kind among counts of alarms
abbrev pub kind_place : AlarmKind → ℕ
kind_place Los = 0
kind_place Loam = 1
kind_place Loa = 2
kind_place Suf = 3
kind_place Df = 4
kind_place Dg = 5

-- the place of a refusal among counts of refusals
abbrev pub refusal_place : Refusal → ℕ
refusal_place refusal = refusal_number refusal

-- ---- a unit

-- nothing was counted of a unit
abbrev pub no_unit : UnitCounts
no_unit = record { found = 0; ranged = 0; alarms = replicate 6 0; heard = None; asked = None; took = None }

-- how many frames it took from the first ask, where there is one
abbrev pub took_until : Option ℕ → ℕ → Option ℕ
took_until None frame = None
took_until (Some first) frame = Some (frame - first)

-- what is counted of a unit after this happened to it. Its first ask is that since it was last ranged, and what it took
-- is the number of frames from there until it was ranged
abbrev pub unit_after : UnitEvent → UnitCounts → UnitCounts
unit_after (Asks frame) unit = record unit { heard = Some frame; asked = Some (unwrap_or unit.asked frame) }
unit_after (Answers frame) unit = record unit { heard = Some frame }
unit_after IsFound unit = record unit { found = one_more unit.found }
unit_after (IsRanged frame) unit =
    record unit {
      ranged = one_more unit.ranged;
      asked = None;
      took = took_until unit.asked frame;
    }
unit_after (Raises kind) unit = record unit { alarms = counted_at unit.alarms (kind_place kind) }

-- from each serial number that is counted to what was counted of it
abbrev pub Units : Type 0
Units = FinMap serial_cmp UnitCounts

-- of how many units is counted at most: as many as a port may admit
abbrev pub most_units : ℕ
most_units = 512

-- this happens to a unit, if its serial number is counted
abbrev pub changed_at : Units → Serial → UnitEvent → Option UnitCounts → Units
changed_at units serial event None = units
changed_at units serial event (Some unit) = insert units serial (unit_after event unit)

abbrev pub changed : Units → Serial → UnitEvent → Units
changed units serial event = changed_at units serial event (get units serial)

-- it happens to this unit, if there is one
abbrev pub changed_of : Units → Option Serial → UnitEvent → Units
changed_of units None event = units
changed_of units (Some serial) event = changed units serial event

-- this happens to a unit, whose serial number is counted from now on, if there is room for one more
abbrev pub counted_with : Units → Serial → UnitEvent → Option UnitCounts → Units
counted_with units serial event None =
    if ltb (len units) most_units then insert units serial (unit_after event no_unit) else units
counted_with units serial event (Some unit) = insert units serial (unit_after event unit)

abbrev pub counted : Units → Serial → UnitEvent → Units
counted units serial event = counted_with units serial event (get units serial)

-- ---- a port

-- a port: its counts, the unit that was found last with each ONU-ID, and its units
pub record PortTally : Type 0 where
  pub counts : PortCounts
  pub holders : List (Option Serial)
  pub units : Units

abbrev pub no_counts : PortCounts
no_counts = record { frames = 0; bursts = 0; commands = 0; refusals = replicate 15 0; alarms = replicate 6 0 }

-- nothing was counted of a port
abbrev pub no_tally : PortTally
no_tally = record { counts = no_counts; holders = replicate onu_ids None; units = empty }

-- frames, bursts and commands
abbrev pub event_counted : PortCounts → Happened → PortCounts
event_counted counts Frame = record counts { frames = one_more counts.frames }
event_counted counts (Burst heard) = record counts { bursts = one_more counts.bursts }
event_counted counts Command = record counts { commands = one_more counts.commands }

-- refusals at their numbers
abbrev pub refusal_counted : PortCounts → Option Refusal → PortCounts
refusal_counted counts None = counts
refusal_counted counts (Some refusal) =
    record counts { refusals = counted_at counts.refusals (refusal_place refusal) }

-- alarms at the places of their kinds
abbrev pub alarm_counted : PortCounts → Option Alarm → PortCounts
alarm_counted counts None = counts
alarm_counted counts (Some alarm) = record counts { alarms = counted_at counts.alarms (kind_place alarm.kind) }

abbrev pub counts_after : PortCounts → Told → PortCounts
counts_after counts told =
    alarm_counted
    (refusal_counted (event_counted counts told.happened) told.answered.refused)
    told.answered.alarm

-- a burst that is refused so is nobody's: no window was open, it was garbled, it was no answer, or no unit of this port
abbrev pub is_nobodys : Option Refusal → Bool
is_nobodys (Some Stray) = true
is_nobodys (Some Garbled) = true
is_nobodys (Some WrongWindow) = true
is_nobodys (Some NotAdmitted) = true
is_nobodys _ = false

-- the unit that was found last with an ONU-ID
abbrev pub holder_in : Option (Option Serial) → Option Serial
holder_in None = None
holder_in (Some holder) = holder

abbrev pub holder : List (Option Serial) → ℕ → Option Serial
holder holders onu = holder_in (slice_get holders onu)

-- the unit that asks for an ONU-ID by a message, which names its serial number
abbrev pub asker_of : Up → Option Serial
asker_of (SerialNumber onu serial random flags) = if onu == broadcast_onu then Some serial else None
asker_of _ = None

abbrev pub asker : Happened → Option Serial
asker (Burst (Some message)) = asker_of message
asker _ = None

-- the unit that a message is from, which has the ONU-ID in octet 1 of its code
abbrev pub answerer : List (Option Serial) → Happened → Option Serial
answerer holders (Burst (Some message)) = holder holders (octet1_of message)
answerer holders _ = None

-- a unit asks, and may be found; else it may be that a unit answers, and may be ranged
abbrev pub unit_found : Units → Serial → Option ℕ → Units
unit_found units serial None = units
unit_found units serial (Some onu) = changed units serial IsFound

abbrev pub unit_ranged : Units → Option Serial → Bool → ℕ → Units
unit_ranged units who false frame = units
unit_ranged units who true frame = changed_of units who (IsRanged frame)

abbrev pub units_heard : PortTally → Happened → Answered → Option Serial → ℕ → Units
units_heard tally it answer (Some serial) frame =
    unit_found (counted tally.units serial (Asks frame)) serial answer.found
units_heard tally it answer None frame =
    unit_ranged (changed_of tally.units (answerer tally.holders it) (Answers frame)) (answerer tally.holders it)
    answer.ranged frame

-- a refused burst may be nobody's
abbrev pub units_met : PortTally → Told → ℕ → Units
units_met tally told frame =
    if is_nobodys told.answered.refused then tally.units
    else units_heard tally told.happened told.answered (asker told.happened) frame

-- the alarm counts for its unit too
abbrev pub unit_alarmed : Units → Option Alarm → Units
unit_alarmed units None = units
unit_alarmed units (Some alarm) = changed units alarm.serial (Raises alarm.kind)

-- the unit that is found holds its ONU-ID, one that units may have
abbrev pub holders_with : List (Option Serial) → Option Serial → Option ℕ → List (Option Serial)
holders_with holders (Some serial) (Some onu) =
    if ltb onu onu_ids then slice_set holders onu (Some serial) else holders
holders_with holders who onu = holders

-- what is counted of a port after a line that tells this: times are numbers of frames, with that of the line
abbrev pub noted : PortTally → Told → PortTally
noted tally told =
    record {
      counts = counts_after tally.counts told;
      holders = holders_with tally.holders (asker told.happened) told.answered.found;
      units = unit_alarmed (units_met tally told (counts_after tally.counts told).frames) told.answered.alarm;
    }
