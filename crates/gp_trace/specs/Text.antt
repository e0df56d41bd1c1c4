-- The text of a trace: a line for each entry (this profile's own rule).
use Rattle.std.specs.Prelude.{ℕ, List, [], ◌++◌, Option, None, Some, codes, decimal}
use Rattle.std.specs.List.{flat_map}
use Rattle.hex.specs.Hex.{encode_lower}
use Rattle.gp_ploam.specs.declared.message.Down.{Down}
use Rattle.gp_ploam.specs.declared.message.Serial.{Serial}
use Rattle.gp_ploam.specs.declared.check.Mask.{Mask}
use Rattle.gp_ploam.specs.Mask.{mask_value}
use Rattle.gp_ploam.specs.Down.{code_of_down}
use Rattle.gp_serial.specs.Spelling.{text_of_serial}
use Rattle.gp_ranging.specs.declared.grant.Grant.{Grant}
use Rattle.gp_ranging.specs.declared.grant.Grant.TheVariants as grants
use Rattle.gp_alarms.specs.declared.alarm.Alarm.{Alarm}
use Rattle.gp_alarms.specs.Alarm.{alarm_name}
use Rattle.gp_machine.specs.declared.event.Command.{Command}
use Rattle.gp_machine.specs.declared.event.Command.TheVariants as commands
use Rattle.gp_machine.specs.Words.{command_word}
use Rattle.gp_machine.specs.declared.event.Event.{Event}
use Rattle.gp_machine.specs.declared.event.Event.TheVariants as events
use Rattle.gp_machine.specs.declared.answer.Answer.{Answer}
use Rattle.gp_machine.specs.declared.entry.Receipt.{Receipt}
use Rattle.gp_trace.specs.Reply.{numbered, reply_text}

-- a word and a unit's serial number
abbrev pub of_unit : List ℕ → Serial → List ℕ
of_unit word serial = word ++ codes " " ++ text_of_serial serial

-- what the operator asked for
abbrev pub command_text : Command → List ℕ
command_text commands.Search = command_word commands.Search
command_text (commands.Alloc serial) = of_unit (command_word (commands.Alloc serial)) serial
command_text (commands.Dealloc serial alloc) =
    of_unit (command_word (commands.Dealloc serial alloc)) serial ++ codes " " ++ decimal alloc
command_text (commands.Deactivate serial) = of_unit (command_word (commands.Deactivate serial)) serial
command_text (commands.Disable serial) = of_unit (command_word (commands.Disable serial)) serial
command_text (commands.Enable serial) = of_unit (command_word (commands.Enable serial)) serial
command_text commands.EnableAll = command_word commands.EnableAll
command_text (commands.Popup serial) = of_unit (command_word (commands.Popup serial)) serial
command_text commands.PopupAll = command_word commands.PopupAll
command_text (commands.Show serial) = of_unit (command_word (commands.Show serial)) serial

-- what happened at the port; a burst with its round-trip delay in bit times and its octets
abbrev pub event_text : Event → List ℕ
event_text events.Frame = codes "frame"
event_text (events.Burst at bytes) = numbered (codes "burst") at ++ codes " " ++ encode_lower bytes
event_text (events.Command command) = command_text command

-- the message that was sent, as its code under the mask
abbrev pub sent_text : Mask → Option Down → List ℕ
sent_text mask None = []
sent_text mask (Some message) = codes " sent " ++ encode_lower (code_of_down message (mask_value mask))

-- who was asked to answer
abbrev pub grant_text : Option Grant → List ℕ
grant_text None = []
grant_text (Some grants.Search) = codes " grant search"
grant_text (Some (grants.Range onu)) = numbered (codes " grant range") onu
grant_text (Some (grants.Poll onu)) = numbered (codes " grant poll") onu

-- the alarm that was raised, with its unit's serial number
abbrev pub alarm_text : Option Alarm → List ℕ
alarm_text None = []
alarm_text (Some alarm) = of_unit (codes " alarm " ++ alarm_name alarm.kind) alarm.serial

-- what the port gave for an event: its reply, and what was sent, granted and raised, where there is something
abbrev pub answer_text : Mask → Answer → List ℕ
answer_text mask answer =
    reply_text answer.reply ++ sent_text mask answer.sent ++ grant_text answer.grant ++ alarm_text answer.alarm

-- the line of an entry: its port, its number on that port, what happened, and what the port gave for it
unfoldable pub line_of : Mask → Receipt → List ℕ
line_of mask r =
    decimal r.port ++ codes " " ++ decimal r.number ++ codes " " ++ event_text r.entry.event ++ codes " = "
    ++ answer_text mask r.entry.answer ++ codes "\n"

-- the lines of the entries, in their order
abbrev pub trace_text : Mask → List Receipt → List ℕ
trace_text mask receipts = flat_map (line_of mask) receipts
