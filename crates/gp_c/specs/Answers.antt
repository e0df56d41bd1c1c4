-- The numbers by which C is told what an event gave (this library's own rule; include/wagpisud.h has their names).
use Rattle.std.specs.Prelude.{ℕ, List, replicate, Option, None, Some}
use Rattle.gp_ploam.specs.declared.message.Down.{Down}
use Rattle.gp_ploam.specs.Down.{code_of_down}
use Rattle.gp_ranging.specs.declared.grant.Grant.{Grant}
use Rattle.gp_ranging.specs.declared.grant.Grant.TheVariants.{Search, Range, Poll}
use Rattle.gp_alarms.specs.declared.alarm.Alarm.{Alarm}
use Rattle.gp_alarms.specs.declared.alarm.AlarmKind.{AlarmKind}
use Rattle.gp_alarms.specs.declared.alarm.AlarmKind.TheVariants.{Los, Loam, Loa, Suf, Df, Dg}
use Rattle.gp_machine.specs.declared.answer.Answer.{Answer}
use Rattle.gp_machine.specs.declared.reply.Reply.{Reply}
use Rattle.gp_machine.specs.declared.reply.Reply.TheVariants.{Ticked, Refused, Searching, Found, Again, Repeat, Restarted, DisabledSeen, Ranged, TooFar, StillRanging, Alive, Acked, Gasp, Allocated, Releasing, Deactivated, Disabled, Enabled, EnabledAll, PoppedUp, PoppedUpAll, Shown}
use Rattle.gp_machine.specs.Refusals.{refusal_number}
use Rattle.gp_c.specs.declared.answer.ReplyNumbers.{ReplyNumbers}
use Rattle.gp_c.specs.declared.answer.AnswerNumbers.{AnswerNumbers}

-- a reply of this kind, without numbers; about a unit; about an Alloc-ID
abbrev pub bare : ℕ → ReplyNumbers
bare kind = record { kind = kind; refusal = 0; onu = 0; count = 0; alloc = 0; eqd = 0 }

abbrev pub of_unit : ℕ → ℕ → ReplyNumbers
of_unit kind onu = record (bare kind) { onu = onu }

abbrev pub of_alloc : ℕ → ℕ → ReplyNumbers
of_alloc kind alloc = record (bare kind) { alloc = alloc }

-- a reply
abbrev pub reply_numbers : Reply → ReplyNumbers
reply_numbers Ticked = bare 0
reply_numbers (Refused refusal) = record (bare 1) { refusal = refusal_number refusal }
reply_numbers Searching = bare 2
reply_numbers (Found onu) = of_unit 3 onu
reply_numbers (Again onu) = of_unit 4 onu
reply_numbers (Repeat onu) = of_unit 5 onu
reply_numbers (Restarted onu) = of_unit 6 onu
reply_numbers DisabledSeen = bare 7
reply_numbers (Ranged onu eqd) = record (of_unit 8 onu) { eqd = eqd }
reply_numbers (TooFar onu) = of_unit 9 onu
reply_numbers (StillRanging onu) = of_unit 10 onu
reply_numbers (Alive onu) = of_unit 11 onu
reply_numbers (Acked alloc) = of_alloc 12 alloc
reply_numbers (Gasp onu) = of_unit 13 onu
reply_numbers (Allocated alloc) = of_alloc 14 alloc
reply_numbers (Releasing alloc) = of_alloc 15 alloc
reply_numbers (Deactivated onu) = of_unit 16 onu
reply_numbers Disabled = bare 17
reply_numbers Enabled = bare 18
reply_numbers EnabledAll = bare 19
reply_numbers (PoppedUp onu) = of_unit 20 onu
reply_numbers (PoppedUpAll count) = record (bare 21) { count = count }
reply_numbers (Shown row) = of_unit 22 row.onu

-- a grant: its kind, and the ONU-ID that it asks
abbrev pub grant_numbers : Option Grant → ℕ × ℕ
grant_numbers None = (0, 0)
grant_numbers (Some Search) = (1, 0)
grant_numbers (Some (Range onu)) = (2, onu)
grant_numbers (Some (Poll onu)) = (3, onu)

-- the kind of an alarm
abbrev pub kind_number : AlarmKind → ℕ
kind_number Los = 1
kind_number Loam = 2
kind_number Loa = 3
kind_number Suf = 4
kind_number Df = 5
kind_number Dg = 6

-- an alarm: its kind, and the serial number of its unit
abbrev pub alarm_numbers : Option Alarm → ℕ × List ℕ
alarm_numbers None = (0, replicate 8 0)
alarm_numbers (Some alarm) = (kind_number alarm.kind, alarm.serial.0)

-- whether a message is sent, and its code under this mask
abbrev pub sent_numbers : ℕ → Option Down → ℕ × List ℕ
sent_numbers mask None = (0, replicate 13 0)
sent_numbers mask (Some message) = (1, code_of_down message mask)

-- the entry with this number, of a port with this mask
abbrev pub answer_numbers : ℕ → ℕ → Answer → AnswerNumbers
answer_numbers mask number answer =
    record {
      number = number;
      eqd = (reply_numbers answer.reply).eqd;
      alloc = (reply_numbers answer.reply).alloc;
      reply = (reply_numbers answer.reply).kind;
      refusal = (reply_numbers answer.reply).refusal;
      onu = (reply_numbers answer.reply).onu;
      count = (reply_numbers answer.reply).count;
      grant = (grant_numbers answer.grant).0;
      grant_onu = (grant_numbers answer.grant).1;
      alarm = (alarm_numbers answer.alarm).0;
      alarm_serial = (alarm_numbers answer.alarm).1;
      is_sent = (sent_numbers mask answer.sent).0;
      sent = (sent_numbers mask answer.sent).1;
    }
