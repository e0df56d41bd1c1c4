-- The poll windows of a unit along a run: how they end, what is counted of them, and after which of them an alarm is
-- raised. That four dark windows give LOS and three garbled ones LOAM is G.984.3, clause 11; all else is this profile's
-- own rule.
use Rattle.std.specs.Prelude.{◌≡◌, ◌↔◌, ℕ, ◌==◌, Bool, true, false, if◌then◌else◌, List, [], ◌∷◌, ◌++◌, replicate, All, Option, None, Some, is_some}
use Rattle.std.specs.List.{sum_by}
use Rattle.std.specs.Option.{option_and_then, option_to_list}
use Rattle.std.specs.FinMap.{get}
use Rattle.gp_ploam.specs.declared.message.Serial.{Serial}
use Rattle.gp_ranging.specs.declared.grant.Grant.{Grant}
use Rattle.gp_ranging.specs.declared.grant.Grant.TheVariants.{Search, Range, Poll}
use Rattle.gp_ranging.specs.Window.{WindowState}
use Rattle.gp_alarms.specs.declared.alarm.AlarmKind.{AlarmKind}
use Rattle.gp_alarms.specs.declared.alarm.AlarmKind.TheVariants.{Los, Loam, Loa}
use Rattle.gp_alarms.specs.declared.poll.Outcome.{Outcome}
use Rattle.gp_alarms.specs.declared.poll.PollCounts.{PollCounts}
use Rattle.gp_alarms.specs.declared.poll.Outcome.TheVariants.{Good, Garbled, Dark, Gasped, Acked}
use Rattle.gp_unit.specs.declared.row.Row.{Row}
use Rattle.gp_unit.specs.Rows.{is_operating, counts_in}
use Rattle.gp_machine.specs.declared.config.PortConfig.{PortConfig}
use Rattle.gp_machine.specs.declared.entry.Entry.{Entry}
use Rattle.gp_machine.specs.declared.event.Event.{Event}
use Rattle.gp_machine.specs.declared.event.Event.TheVariants.{Frame, Burst, Command}
use Rattle.gp_machine.specs.declared.reply.Reply.{Reply}
use Rattle.gp_machine.specs.declared.reply.Reply.TheVariants as reply
use Rattle.gp_machine.specs.State.{PortState, HasRow, opening_of}
use Rattle.gp_machine.specs.Closes.{poll_ended}
use Rattle.gp_machine.specs.Run.{IsStep, Run}

-- ---- how a poll window ends

-- how an answer of the unit ends its poll window
abbrev pub end_by_answer : Reply → Option Outcome
end_by_answer (reply.Alive onu) = Some Good
end_by_answer (reply.Acked alloc) = Some Acked
end_by_answer (reply.Gasp onu) = Some Gasped
end_by_answer _ = None

-- how this event, with this reply, ends a poll window, if it does: with its last frame, garbled where something was
-- seen and else dark, or with an answer of the unit
abbrev pub window_end : WindowState → Event → Reply → Option Outcome
window_end window Frame reply = if window.left == 1 then Some (poll_ended window.seen) else None
window_end window (Burst round_trip bytes) reply = end_by_answer reply
window_end window (Command command) reply = None

-- whether a grant polls the unit with this ONU-ID
abbrev pub polls : Grant → ℕ → Bool
polls Search onu = false
polls (Range asked) onu = false
polls (Poll asked) onu = asked == onu

-- how they end a poll window of the unit with this ONU-ID, if they end one
abbrev pub poll_end : Option WindowState → Event → Reply → ℕ → Option Outcome
poll_end None event reply onu = None
poll_end (Some window) event reply onu = if polls window.grant onu then window_end window event reply else None

-- how this entry ends a poll window of the unit with this serial number, if it ends one
abbrev pub end_of : PortState → Serial → Entry → Option Outcome
end_of port serial entry =
    option_and_then (λ row. poll_end port.window entry.event entry.answer.reply row.onu) (get port.rows serial)

-- ---- a stretch of a run

-- the unit operates
abbrev pub operates : Row → Bool
operates row = is_operating row.phase

-- the unit has still to acknowledge an Alloc-ID
abbrev pub awaits : Row → Bool
awaits row = is_some row.pending

-- the unit with this serial number is active, and its row passes the test
abbrev pub RowPasses : (Row → Bool) → Serial → PortState → Type 0
RowPasses test serial port = (row : Row) × HasRow port.rows serial row × (test row ≡ true)

-- the entries are steps from the first state to the last, the unit's row passes the test in both and in each state
-- between them, and with these entries its poll windows end so, in order
abbrev pub RunPolling : (Row → Bool) → Serial → PortState → List Entry → List Outcome → PortState → Type 0
RunPolling test serial port [] ends last = RowPasses test serial port × (last ≡ port) × (ends ≡ [])
RunPolling test serial port (entry ∷ entries) ends last =
    (mid : PortState) × (rest : List Outcome)
    × RowPasses test serial port × IsStep port entry mid × RunPolling test serial mid entries rest last
    × (ends ≡ option_to_list (end_of port serial entry) ++ rest)

-- these entries lead from the opening to the last state, and the latest of them are a stretch in which the unit's row
-- passes the test, and in which its poll windows end so
pub record EndsPolling
    (config : PortConfig) (entries : List Entry) (last : PortState)
    (serial : Serial) (test : Row → Bool) (ends : List Outcome) : Type 0 where
  pub before : List Entry
  pub stretch : List Entry
  pub start : PortState
  pub parts : entries ≡ before ++ stretch
  pub reached : Run (opening_of config) before start
  pub polled : RunPolling test serial start stretch ends last

-- ---- what is counted

-- what is counted of the poll windows of a unit
abbrev pub counts_of : Row → PollCounts
counts_of row = counts_in row.phase row.waiting

-- in this state the unit's row has a count of 0
abbrev pub CountsNone : PortState → Serial → (Row → ℕ) → Type 0
CountsNone port serial count = (row : Row) → HasRow port.rows serial row → count row ≡ 0

-- the unit didn't answer in the window
abbrev pub is_unanswered : Outcome → Bool
is_unanswered Dark = true
is_unanswered Garbled = true
is_unanswered _ = false

-- a garbled window counts for LOAM
abbrev pub garbled_of : Outcome → ℕ
garbled_of Garbled = 1
garbled_of _ = 0

-- each window counts for LOA, but that of a Dying_Gasp and that of the Acknowledge
abbrev pub waited_of : Outcome → ℕ
waited_of Acked = 0
waited_of Gasped = 0
waited_of _ = 1

-- the unit answered in none of these windows, and so many of them are garbled
abbrev pub AreUnanswered : List Outcome → ℕ → Type 0
AreUnanswered ends garbled = All (λ end. is_unanswered end ≡ true) ends × (sum_by garbled_of ends ≡ garbled)

-- in every run from an opening: since an operating unit's count of dark windows was last 0, as many of its poll windows
-- ended dark, and none in another way
abbrev pub CountsDarkWindows : Type 0
CountsDarkWindows =
    (config : PortConfig) (last : PortState) (entries : List Entry) (serial : Serial) (row : Row)
    → Run (opening_of config) entries last
    → HasRow last.rows serial row
    → operates row ≡ true
    → (polling : EndsPolling config entries last serial operates (replicate (counts_of row).dark Dark))
    × CountsNone polling.start serial (λ row. (counts_of row).dark)

-- since its count of garbled windows was last 0, as many ended garbled, others dark, and the unit answered in none
abbrev pub CountsGarbledWindows : Type 0
CountsGarbledWindows =
    (config : PortConfig) (last : PortState) (entries : List Entry) (serial : Serial) (row : Row)
    → Run (opening_of config) entries last
    → HasRow last.rows serial row
    → operates row ≡ true
    → (ends : List Outcome) × (polling : EndsPolling config entries last serial operates ends)
    × AreUnanswered ends (counts_of row).garbled
    × CountsNone polling.start serial (λ row. (counts_of row).garbled)

-- and since the waiting count of a unit that has still to acknowledge an Alloc-ID was last 0, as many of its poll
-- windows ended that count for LOA
abbrev pub CountsWaitedWindows : Type 0
CountsWaitedWindows =
    (config : PortConfig) (last : PortState) (entries : List Entry) (serial : Serial) (row : Row)
    → Run (opening_of config) entries last
    → HasRow last.rows serial row
    → awaits row ≡ true
    → (ends : List Outcome) × (polling : EndsPolling config entries last serial awaits ends)
    × (sum_by waited_of ends ≡ row.waiting)
    × CountsNone polling.start serial (λ row. row.waiting)

-- ---- alarms

-- the answer of this entry raises this alarm of the unit
abbrev pub Raises : Entry → AlarmKind → Serial → Type 0
Raises entry kind serial = entry.answer.alarm ≡ Some (record { kind = kind; serial = serial })

-- this entry ends a dark poll window of the unit, and the three before it were dark, while the unit operated
abbrev pub EndsFourDark : PortConfig → List Entry → PortState → Entry → Serial → Type 0
EndsFourDark config entries last entry serial =
    EndsPolling config entries last serial operates (Dark ∷ Dark ∷ Dark ∷ []) × (end_of last serial entry ≡ Some Dark)

-- this entry ends a garbled poll window of the unit, and of those before it two were garbled, others dark, and the unit
-- answered in none, while it operated
abbrev pub EndsThreeGarbled : PortConfig → List Entry → PortState → Entry → Serial → Type 0
EndsThreeGarbled config entries last entry serial =
    (ends : List Outcome) × EndsPolling config entries last serial operates ends
    × AreUnanswered ends 2 × (end_of last serial entry ≡ Some Garbled)

-- this entry ends a poll window of the unit that counts for LOA, and of those before it two counted, while it had still
-- to acknowledge an Alloc-ID
abbrev pub EndsThreeWaited : PortConfig → List Entry → PortState → Entry → Serial → Type 0
EndsThreeWaited config entries last entry serial =
    (ends : List Outcome) × (final : Outcome) × EndsPolling config entries last serial awaits ends
    × (sum_by waited_of ends ≡ 2) × (end_of last serial entry ≡ Some final) × (waited_of final ≡ 1)

-- in every run from an opening an entry raises LOS exactly where it ends the fourth dark poll window in a row
abbrev pub RaisesLosAfterFourDark : Type 0
RaisesLosAfterFourDark =
    (config : PortConfig) (last after : PortState) (entries : List Entry) (entry : Entry) (serial : Serial)
    → Run (opening_of config) entries last
    → IsStep last entry after
    → Raises entry Los serial ↔ EndsFourDark config entries last entry serial

-- it raises LOAM exactly where it ends the third garbled one with no answer between them
abbrev pub RaisesLoamAfterThreeGarbled : Type 0
RaisesLoamAfterThreeGarbled =
    (config : PortConfig) (last after : PortState) (entries : List Entry) (entry : Entry) (serial : Serial)
    → Run (opening_of config) entries last
    → IsStep last entry after
    → Raises entry Loam serial ↔ EndsThreeGarbled config entries last entry serial

-- and it raises LOA exactly where it ends the third one in which a pending Alloc-ID was not acknowledged, and neither
-- LOS nor LOAM comes first
abbrev pub RaisesLoaAfterThreeWaited : Type 0
RaisesLoaAfterThreeWaited =
    (config : PortConfig) (last after : PortState) (entries : List Entry) (entry : Entry) (serial : Serial)
    → Run (opening_of config) entries last
    → IsStep last entry after
    → Raises entry Loa serial
    ↔ (EndsThreeWaited config entries last entry serial
    × (EndsFourDark config entries last entry serial → ⊥)
    × (EndsThreeGarbled config entries last entry serial → ⊥))
