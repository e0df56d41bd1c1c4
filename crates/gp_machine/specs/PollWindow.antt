-- A burst in the window of an operating unit that is polled (this profile's own rule).
use Rattle.std.specs.Prelude.{ℕ, ◌==◌, if◌then◌else◌, [], ◌∷◌, Option, None, Some}
use Rattle.gp_ploam.specs.declared.message.Serial.{Serial}
use Rattle.gp_ploam.specs.declared.message.Up.{Up}
use Rattle.gp_ploam.specs.declared.message.Up.TheVariants.{DyingGasp, Acknowledge}
use Rattle.gp_alarms.specs.declared.alarm.AlarmKind.{AlarmKind}
use Rattle.gp_alarms.specs.declared.alarm.AlarmKind.TheVariants.{Dg}
use Rattle.gp_alarms.specs.declared.poll.Outcome.TheVariants.{Good, Gasped}
use Rattle.gp_alarms.specs.declared.poll.Outcome.TheVariants as poll
use Rattle.gp_unit.specs.declared.row.Row.{Row}
use Rattle.gp_unit.specs.Rows.{row_polled, alarm_polled, row_acknowledged}
use Rattle.gp_machine.specs.declared.reply.Reply.TheVariants.{Alive, Acked, Gasp}
use Rattle.gp_machine.specs.Responses.{Response, replies, alarms, removal}
use Rattle.gp_machine.specs.Changes.{ClosesWindow, SetsRow}

-- the operating unit that is asked answered, and its Acknowledge is still awaited if one was: with an alarm it is
-- removed
abbrev pub alive_response : Serial → Row → Option AlarmKind → Response
alive_response serial row None = replies (Alive row.onu) (ClosesWindow ∷ SetsRow serial (row_polled row Good) ∷ [])
alive_response serial row (Some kind) = alarms (Alive row.onu) kind serial (ClosesWindow ∷ removal serial row.onu)

-- it acknowledges an Assign_Alloc-ID; with nothing pending that is any message
abbrev pub acknowledged_response : Serial → Row → Option ℕ → Response
acknowledged_response serial row None = alive_response serial row (alarm_polled row Good)
acknowledged_response serial row (Some alloc) =
    replies (Acked alloc) (ClosesWindow ∷ SetsRow serial (row_acknowledged (row_polled row poll.Acked) alloc) ∷ [])

-- a message from the operating unit that is asked
abbrev pub operating_response : Serial → Row → Up → Response
operating_response serial row (Acknowledge octet1 id copy) =
    if id == 10 then acknowledged_response serial row row.pending else alive_response serial row (alarm_polled row Good)
operating_response serial row (DyingGasp octet1) =
    alarms (Gasp row.onu) Dg serial (ClosesWindow ∷ SetsRow serial (row_polled row Gasped) ∷ [])
operating_response serial row _ = alive_response serial row (alarm_polled row Good)
