-- No line of a trace has a line feed inside.
use Rattle.std.specs.Prelude.{◌==◌, ◌&&◌, if◌then◌else◌, not}
use Rattle.std.proofs.Common.{◌≡◌, ℕ, ◌/◌, ◌%◌, Bool, true, false, cond, List, [], ◌∷◌, ◌++◌, Option, None, Some, codes, decimal, refl, get_or, take, drop}
use Rattle.std.specs.Fmt.{digits, digits_onto, digit_glyph}
use Rattle.std.specs.List.{flat_map, list_all}
use Rattle.std.specs.FinMap.{entries}
use Rattle.std.proofs.lemmas.Bool.Decides.{nat_tests}
use Rattle.std.proofs.Common.{arith, zero, suc}
use Rattle.hex.specs.Hex.{encode_with, encode_lower, encode_upper, lower_digits, upper_digits}
use Rattle.gp_ploam.specs.declared.message.Down.{Down}
use Rattle.gp_ploam.specs.declared.message.Serial.{Serial}
use Rattle.gp_ploam.specs.declared.check.Mask.{Mask}
use Rattle.gp_serial.specs.Spelling.{has_vendor_code, is_vendor_character, text_of_serial}
use Rattle.gp_ranging.specs.declared.grant.Grant.{Grant}
use Rattle.gp_ranging.specs.declared.grant.Grant.TheVariants as grants
use Rattle.gp_alarms.specs.declared.alarm.Alarm.{Alarm}
use Rattle.gp_alarms.specs.declared.alarm.AlarmKind.{AlarmKind}
use Rattle.gp_alarms.specs.declared.alarm.AlarmKind.TheVariants as kinds
use Rattle.gp_alarms.specs.Alarm.{alarm_name}
use Rattle.gp_unit.specs.declared.row.Phase.{Phase}
use Rattle.gp_unit.specs.declared.row.Phase.TheVariants.{Ranging, Operating}
use Rattle.gp_unit.specs.declared.row.Row.{Row}
use Rattle.gp_machine.specs.declared.event.Command.{Command}
use Rattle.gp_machine.specs.declared.event.Command.TheVariants as commands
use Rattle.gp_machine.specs.declared.event.Event.{Event}
use Rattle.gp_machine.specs.declared.event.Event.TheVariants as events
use Rattle.gp_machine.specs.declared.refusal.Refusal.{Refusal}
use Rattle.gp_machine.specs.declared.refusal.Refusal.TheVariants as refusals
use Rattle.gp_machine.specs.declared.reply.Reply.{Reply}
use Rattle.gp_machine.specs.declared.reply.Reply.TheVariants as replies
use Rattle.gp_machine.specs.declared.answer.Answer.{Answer}
use Rattle.gp_machine.specs.declared.entry.Receipt.{Receipt}
use Rattle.gp_machine.specs.Refusals.{refusal_name, refusal_number}
use Rattle.gp_trace.specs.Reply.{alloc_text, allocs_text, leaving_text, next_alloc_text, numbered, phase_text, reply_text, row_text}
use Rattle.gp_trace.specs.Text.{alarm_text, answer_text, command_text, event_text, grant_text, of_unit, sent_text}
use Rattle.gp_flow.proofs.LineLemmas.{NoFeed}

-- ---- texts

abbrev is_no_feed : ℕ → Bool
is_no_feed octet = not (octet == 10)

first_of : (a b : Bool) → (a && b) ≡ true → a ≡ true
first_of true b h = refl
first_of false b h = h

second_of : (a b : Bool) → (a && b) ≡ true → b ≡ true
second_of true b h = h
second_of false b h = cc h

is_not : (v : Bool) → not v ≡ true → v ≡ false
is_not true h = cc h
is_not false h = refl

-- a word
word_plain : (word : List ℕ) → list_all is_no_feed word ≡ true → NoFeed word
word_plain [] h = tt
word_plain (b ∷ word) h = (is_not (b == 10) (first_of (is_no_feed b) _ h), word_plain word (second_of (is_no_feed b) _ h))

more : (first second : List ℕ) → NoFeed first → NoFeed second → NoFeed (first ++ second)
more [] second h k = k
more (b ∷ first) second h k = (h.0, more first second h.1 k)

glyph_plain : (upper : Bool) (d : ℕ) → (digit_glyph upper d == 10) ≡ false
glyph_plain upper d = grind (arith, nat_tests)

either : (v : Bool) (a b : List ℕ) → NoFeed a → NoFeed b → NoFeed (cond v a b)
either true a b h k = h
either false a b h k = k

onto_plain : (k base : ℕ) (upper : Bool) (n : ℕ) (acc : List ℕ) → NoFeed acc → NoFeed (digits_onto k base upper n acc)
onto_plain zero base upper n acc h = h
onto_plain (suc k) base upper n acc h =
    let d = digit_glyph upper (n % base) in
    let on : NoFeed (d ∷ acc) = (glyph_plain upper (n % base), h) in
    either (n / base == 0) (d ∷ acc) (digits_onto k base upper (n / base) (d ∷ acc)) on (onto_plain k base upper (n / base) (d ∷ acc) on)

number_plain : (n : ℕ) → NoFeed (decimal n)
unfolding digits
number_plain n = onto_plain 64 10 false n [] tt

get_plain : (table : List ℕ) (i : ℕ) → NoFeed table → (get_or table i 0 == 10) ≡ false
get_plain [] i h = refl
get_plain (b ∷ table) zero h = h.0
get_plain (b ∷ table) (suc i) h = get_plain table i h.1

hex_plain : (table octets : List ℕ) → NoFeed table → NoFeed (encode_with table octets)
unfolding encode_with
hex_plain table [] h = tt
hex_plain table (b ∷ octets) h = (get_plain table (b / 16) h, (get_plain table (b % 16) h, hex_plain table octets h))

lower_plain : (octets : List ℕ) → NoFeed (encode_lower octets)
lower_plain octets = hex_plain lower_digits octets (word_plain lower_digits refl)

upper_plain : (octets : List ℕ) → NoFeed (encode_upper octets)
upper_plain octets = hex_plain upper_digits octets (word_plain upper_digits refl)

vendor_plain : (octet : ℕ) → is_vendor_character octet ≡ true → (octet == 10) ≡ false
vendor_plain octet h = grind (arith, nat_tests, h)

vendors_plain : (octets : List ℕ) → list_all is_vendor_character octets ≡ true → NoFeed octets
vendors_plain [] h = tt
vendors_plain (b ∷ octets) h = (vendor_plain b (first_of (is_vendor_character b) _ h), vendors_plain octets (second_of (is_vendor_character b) _ h))

serial_plain : (serial : Serial) → NoFeed (text_of_serial serial)
unfolding text_of_serial
serial_plain serial = by (has_vendor_code serial.0) refl
  where
    by : (v : Bool) → has_vendor_code serial.0 ≡ v → NoFeed (if v then take 4 serial.0 ++ encode_upper (drop 4 serial.0) else encode_upper serial.0)
    by true e = more (take 4 serial.0) (encode_upper (drop 4 serial.0)) (vendors_plain (take 4 serial.0) e) (upper_plain (drop 4 serial.0))
    by false e = upper_plain serial.0

space_plain : NoFeed (codes " ")
space_plain = word_plain (codes " ") refl

-- ---- what a line tells

numbered_plain : (word : List ℕ) (n : ℕ) → NoFeed word → NoFeed (numbered word n)
numbered_plain word n h = more (word ++ codes " ") (decimal n) (more word (codes " ") h space_plain) (number_plain n)

unit_plain : (word : List ℕ) (serial : Serial) → NoFeed word → NoFeed (of_unit word serial)
unit_plain word serial h = more (word ++ codes " ") (text_of_serial serial) (more word (codes " ") h space_plain) (serial_plain serial)

command_plain : (command : Command) → NoFeed (command_text command)
command_plain commands.Search = word_plain (codes "search") refl
command_plain (commands.Alloc serial) = unit_plain (codes "alloc") serial (word_plain (codes "alloc") refl)
command_plain (commands.Dealloc serial alloc) =
    more (of_unit (codes "dealloc") serial ++ codes " ") (decimal alloc)
    (more (of_unit (codes "dealloc") serial) (codes " ") (unit_plain (codes "dealloc") serial (word_plain (codes "dealloc") refl)) space_plain) (number_plain alloc)
command_plain (commands.Deactivate serial) = unit_plain (codes "deactivate") serial (word_plain (codes "deactivate") refl)
command_plain (commands.Disable serial) = unit_plain (codes "disable") serial (word_plain (codes "disable") refl)
command_plain (commands.Enable serial) = unit_plain (codes "enable") serial (word_plain (codes "enable") refl)
command_plain commands.EnableAll = word_plain (codes "enable-all") refl
command_plain (commands.Popup serial) = unit_plain (codes "popup") serial (word_plain (codes "popup") refl)
command_plain commands.PopupAll = word_plain (codes "popup-all") refl
command_plain (commands.Show serial) = unit_plain (codes "show") serial (word_plain (codes "show") refl)

event_plain : (event : Event) → NoFeed (event_text event)
event_plain events.Frame = word_plain (codes "frame") refl
event_plain (events.Burst at octets) =
    more (numbered (codes "burst") at ++ codes " ") (encode_lower octets)
    (more (numbered (codes "burst") at) (codes " ") (numbered_plain (codes "burst") at (word_plain (codes "burst") refl)) space_plain) (lower_plain octets)
event_plain (events.Command command) = command_plain command

leaving_plain : (leaving : Bool) → NoFeed (leaving_text leaving)
leaving_plain true = word_plain (codes "!") refl
leaving_plain false = tt

alloc_plain : (alloc : ℕ × Bool) → NoFeed (alloc_text alloc)
alloc_plain alloc = more (decimal alloc.0) (leaving_text alloc.1) (number_plain alloc.0) (leaving_plain alloc.1)

others_plain : (allocs : List (ℕ × Bool)) → NoFeed (flat_map next_alloc_text allocs)
others_plain [] = tt
others_plain (alloc ∷ allocs) =
    more (next_alloc_text alloc) (flat_map next_alloc_text allocs) (more (codes ",") (alloc_text alloc) (word_plain (codes ",") refl) (alloc_plain alloc)) (others_plain allocs)

allocs_plain : (allocs : List (ℕ × Bool)) → NoFeed (allocs_text allocs)
allocs_plain [] = word_plain (codes "-") refl
allocs_plain (alloc ∷ allocs) = more (alloc_text alloc) (flat_map next_alloc_text allocs) (alloc_plain alloc) (others_plain allocs)

phase_plain : (phase : Phase) → NoFeed (phase_text phase)
phase_plain (Ranging attempts seen) = numbered_plain (codes "ranging") attempts (word_plain (codes "ranging") refl)
phase_plain (Operating eqd dark garbled) = numbered_plain (codes "operating") eqd (word_plain (codes "operating") refl)

row_plain : (row : Row) → NoFeed (row_text row)
row_plain row =
    let unit = numbered (codes "unit") row.onu in
    let phase = phase_text row.phase in
    more (((unit ++ codes " ") ++ phase) ++ codes " allocs ") (allocs_text (entries row.allocs))
    (more ((unit ++ codes " ") ++ phase) (codes " allocs ")
    (more (unit ++ codes " ") phase (more unit (codes " ") (numbered_plain (codes "unit") row.onu (word_plain (codes "unit") refl)) space_plain) (phase_plain row.phase))
    (word_plain (codes " allocs ") refl))
    (allocs_plain (entries row.allocs))

refusal_tested : (refusal : Refusal) → list_all is_no_feed (refusal_name refusal) ≡ true
refusal_tested refusals.Stray = refl
refusal_tested _ = refl

refusal_plain : (refusal : Refusal) → NoFeed (reply_text (replies.Refused refusal))
refusal_plain refusal =
    more (numbered (codes "refused") (refusal_number refusal) ++ codes " ") (refusal_name refusal)
    (more (numbered (codes "refused") (refusal_number refusal)) (codes " ") (numbered_plain (codes "refused") (refusal_number refusal) (word_plain (codes "refused") refl)) space_plain)
    (word_plain (refusal_name refusal) (refusal_tested refusal))

reply_plain : (reply : Reply) → NoFeed (reply_text reply)
reply_plain replies.Ticked = word_plain (codes "ok") refl
reply_plain (replies.Refused refusal) = refusal_plain refusal
reply_plain replies.Searching = word_plain (codes "searching") refl
reply_plain (replies.Found onu) = numbered_plain (codes "found") onu (word_plain (codes "found") refl)
reply_plain (replies.Again onu) = numbered_plain (codes "again") onu (word_plain (codes "again") refl)
reply_plain (replies.Repeat onu) = numbered_plain (codes "repeat") onu (word_plain (codes "repeat") refl)
reply_plain (replies.Restarted onu) = numbered_plain (codes "restarted") onu (word_plain (codes "restarted") refl)
reply_plain replies.DisabledSeen = word_plain (codes "disabled-seen") refl
reply_plain (replies.Ranged onu eqd) =
    more (numbered (codes "ranged") onu ++ codes " ") (decimal eqd)
    (more (numbered (codes "ranged") onu) (codes " ") (numbered_plain (codes "ranged") onu (word_plain (codes "ranged") refl)) space_plain) (number_plain eqd)
reply_plain (replies.TooFar onu) = numbered_plain (codes "too-far") onu (word_plain (codes "too-far") refl)
reply_plain (replies.StillRanging onu) = numbered_plain (codes "still-ranging") onu (word_plain (codes "still-ranging") refl)
reply_plain (replies.Alive onu) = numbered_plain (codes "alive") onu (word_plain (codes "alive") refl)
reply_plain (replies.Acked alloc) = numbered_plain (codes "acked") alloc (word_plain (codes "acked") refl)
reply_plain (replies.Gasp onu) = numbered_plain (codes "gasp") onu (word_plain (codes "gasp") refl)
reply_plain (replies.Allocated alloc) = numbered_plain (codes "allocated") alloc (word_plain (codes "allocated") refl)
reply_plain (replies.Releasing alloc) = numbered_plain (codes "releasing") alloc (word_plain (codes "releasing") refl)
reply_plain (replies.Deactivated onu) = numbered_plain (codes "deactivated") onu (word_plain (codes "deactivated") refl)
reply_plain replies.Disabled = word_plain (codes "disabled") refl
reply_plain replies.Enabled = word_plain (codes "enabled") refl
reply_plain replies.EnabledAll = word_plain (codes "enabled-all") refl
reply_plain (replies.PoppedUp onu) = numbered_plain (codes "popped-up") onu (word_plain (codes "popped-up") refl)
reply_plain (replies.PoppedUpAll count) = numbered_plain (codes "popped-up-all") count (word_plain (codes "popped-up-all") refl)
reply_plain (replies.Shown row) = row_plain row

sent_plain : (mask : Mask) (sent : Option Down) → NoFeed (sent_text mask sent)
sent_plain mask None = tt
sent_plain mask (Some sent) = more (codes " sent ") _ (word_plain (codes " sent ") refl) (lower_plain _)

grant_plain : (grant : Option Grant) → NoFeed (grant_text grant)
grant_plain None = tt
grant_plain (Some grants.Search) = word_plain (codes " grant search") refl
grant_plain (Some (grants.Range onu)) = numbered_plain (codes " grant range") onu (word_plain (codes " grant range") refl)
grant_plain (Some (grants.Poll onu)) = numbered_plain (codes " grant poll") onu (word_plain (codes " grant poll") refl)

kind_tested : (kind : AlarmKind) → list_all is_no_feed (alarm_name kind) ≡ true
kind_tested kinds.Los = refl
kind_tested _ = refl

alarm_plain : (alarm : Option Alarm) → NoFeed (alarm_text alarm)
alarm_plain None = tt
alarm_plain (Some alarm) =
    unit_plain (codes " alarm " ++ alarm_name alarm.kind) alarm.serial
    (more (codes " alarm ") (alarm_name alarm.kind) (word_plain (codes " alarm ") refl) (word_plain (alarm_name alarm.kind) (kind_tested alarm.kind)))

answer_plain : (mask : Mask) (answer : Answer) → NoFeed (answer_text mask answer)
answer_plain mask answer =
    let reply = reply_text answer.reply in
    let sent = sent_text mask answer.sent in
    let grant = grant_text answer.grant in
    more ((reply ++ sent) ++ grant) (alarm_text answer.alarm)
    (more (reply ++ sent) grant (more reply sent (reply_plain answer.reply) (sent_plain mask answer.sent)) (grant_plain answer.grant)) (alarm_plain answer.alarm)

-- a line without its line feed
pub front_plain : (mask : Mask) (r : Receipt)
    → NoFeed (decimal r.port ++ codes " " ++ decimal r.number ++ codes " " ++ event_text r.entry.event ++ codes " = " ++ answer_text mask r.entry.answer)
front_plain mask r =
    let port = decimal r.port in
    let number = decimal r.number in
    let event = event_text r.entry.event in
    more (((((port ++ codes " ") ++ number) ++ codes " ") ++ event) ++ codes " = ") (answer_text mask r.entry.answer)
    (more ((((port ++ codes " ") ++ number) ++ codes " ") ++ event) (codes " = ")
    (more (((port ++ codes " ") ++ number) ++ codes " ") event
    (more ((port ++ codes " ") ++ number) (codes " ")
    (more (port ++ codes " ") number (more port (codes " ") (number_plain r.port) space_plain) (number_plain r.number)) space_plain) (event_plain r.entry.event))
    (word_plain (codes " = ") refl))
    (answer_plain mask r.entry.answer)
