-- How a window closes with its last frame (this profile's own rule).
use Rattle.std.specs.Prelude.{◌||◌, Bool, true, false, if◌then◌else◌, List, [], ◌∷◌, Option, None, Some}
use Rattle.gp_ploam.specs.declared.message.Serial.{Serial}
use Rattle.gp_ranging.specs.declared.grant.Grant.{Grant}
use Rattle.gp_ranging.specs.declared.grant.Grant.TheVariants.{Search, Range, Poll}
use Rattle.gp_alarms.specs.declared.alarm.Alarm.{Alarm}
use Rattle.gp_alarms.specs.declared.alarm.AlarmKind.{AlarmKind}
use Rattle.gp_alarms.specs.declared.alarm.AlarmKind.TheVariants.{Suf}
use Rattle.gp_alarms.specs.declared.poll.Outcome.TheVariants.{Garbled, Dark}
use Rattle.gp_alarms.specs.declared.poll.Outcome as poll
use Rattle.gp_unit.specs.declared.row.Row.{Row}
use Rattle.gp_unit.specs.Rows.{row_unranged, was_seen, row_polled, alarm_polled}
use Rattle.gp_machine.specs.declared.reply.Reply.TheVariants.{Ticked}
use Rattle.gp_machine.specs.State.{PortState, unit_with}
use Rattle.gp_machine.specs.Changes.{Change, ClosesWindow, SetsRow}
use Rattle.gp_machine.specs.Responses.{Response, Responds, removal}

-- a frame that grants nothing, may raise an alarm, and makes these changes
abbrev pub ticks : Option Alarm → List Change → Response
ticks alarm changes = Responds Ticked None alarm changes

-- SUF of a unit of which something was heard while it was ranging
abbrev pub suf_alarm : Bool → Serial → Option Alarm
suf_alarm heard serial = if heard then Some (record { kind = Suf; serial = serial }) else None

-- a ranging window closed without a result, in which something was heard or not: the unit ranges again, with this
-- row, or is removed, with SUF if anything was heard of it
abbrev pub unranged_response : Serial → Row → Bool → Option Row → Response
unranged_response serial row heard (Some again) = ticks None (ClosesWindow ∷ SetsRow serial again ∷ [])
unranged_response serial row heard None =
    ticks (suf_alarm (was_seen row.phase || heard) serial) (ClosesWindow ∷ removal serial row.onu)

-- a poll window closed, in which something was heard or not: with an alarm the unit is removed
abbrev pub unpolled_response : Serial → Row → poll.Outcome → Option AlarmKind → Response
unpolled_response serial row ended None = ticks None (ClosesWindow ∷ SetsRow serial (row_polled row ended) ∷ [])
unpolled_response serial row ended (Some kind) =
    ticks (Some (record { kind = kind; serial = serial })) (ClosesWindow ∷ removal serial row.onu)

-- how a poll window ends that closes with its last frame
abbrev pub poll_ended : Bool → poll.Outcome
poll_ended true = Garbled
poll_ended false = Dark

-- the window of a grant closes with its last frame, by the unit that it asks
abbrev pub close_response : Bool → Grant → Option (Serial × Row) → Response
close_response heard (Range onu) (Some (serial, row)) =
    unranged_response serial row heard (row_unranged row heard row.phase)
close_response heard (Poll onu) (Some (serial, row)) =
    unpolled_response serial row (poll_ended heard) (alarm_polled row (poll_ended heard))
close_response heard _ _ = ticks None (ClosesWindow ∷ [])

-- the unit that a grant asks
abbrev pub asked_unit : PortState → Grant → Option (Serial × Row)
asked_unit port Search = None
asked_unit port (Range onu) = unit_with port.rows onu
asked_unit port (Poll onu) = unit_with port.rows onu
