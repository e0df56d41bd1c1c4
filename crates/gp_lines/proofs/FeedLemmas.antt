-- The octets of a trace's lines: none of them is a line feed or a carriage return.
use Rattle.std.proofs.Common.{◌≡◌, ℕ, zero, suc, ◌==◌, ◌/◌, ◌%◌, ◌&&◌, Bool, true, false, List, [], ◌∷◌, ◌++◌, length, take, drop, slice_index, Option, None, Some, codes, refl, inl, inr, arith, nat_lt}
use Rattle.std.specs.Prelude.{decimal, not}
use Rattle.std.proofs.lemmas.Bool.{cases_Bool, cases_lt}
use Rattle.std.proofs.lemmas.Bool.Decides.{nat_tests}
use Rattle.std.proofs.lemmas.List.{get_or_past}
use Rattle.std.proofs.lemmas.List.Elements.{All-weaker, All-append, All-cons, All-nil}
use Rattle.std.proofs.lemmas.List.Sums.{AllPass-from_list_all}
use Rattle.std.specs.Fmt.{digits, digit_glyph, digits_onto}
use Rattle.std.specs.FinMap.{entries}
use Rattle.std.specs.List.{All, list_all, flat_map}
use Rattle.hex.specs.Hex.{encode_with, encode_lower, encode_upper, lower_digits, upper_digits}
use Rattle.gp_ploam.specs.declared.check.Mask.{Mask}
use Rattle.gp_ploam.specs.declared.message.Down.{Down}
use Rattle.gp_ploam.specs.declared.message.Serial.{Serial}
use Rattle.gp_ploam.specs.Down.{code_of_down}
use Rattle.gp_ploam.specs.Mask.{mask_value}
use Rattle.gp_serial.specs.Spelling.{text_of_serial, has_vendor_code, is_vendor_character}
use Rattle.gp_ranging.specs.declared.grant.Grant.{Grant}
use Rattle.gp_ranging.specs.declared.grant.Grant.TheVariants as grants
use Rattle.gp_alarms.specs.declared.alarm.Alarm.{Alarm}
use Rattle.gp_alarms.specs.declared.alarm.AlarmKind.{AlarmKind}
use Rattle.gp_alarms.specs.declared.alarm.AlarmKind.TheVariants.{Los}
use Rattle.gp_alarms.specs.Alarm.{alarm_name}
use Rattle.gp_unit.specs.declared.row.Phase.{Phase}
use Rattle.gp_unit.specs.declared.row.Phase.TheVariants.{Ranging, Operating}
use Rattle.gp_unit.specs.declared.row.Row.{Row}
use Rattle.gp_machine.specs.declared.event.Command.{Command}
use Rattle.gp_machine.specs.declared.event.Command.TheVariants as commands
use Rattle.gp_machine.specs.declared.event.Event.{Event}
use Rattle.gp_machine.specs.declared.event.Event.TheVariants as events
use Rattle.gp_machine.specs.declared.refusal.Refusal.{Refusal}
use Rattle.gp_machine.specs.declared.refusal.Refusal.TheVariants.{Stray}
use Rattle.gp_machine.specs.declared.reply.Reply.{Reply}
use Rattle.gp_machine.specs.declared.reply.Reply.TheVariants as replies
use Rattle.gp_machine.specs.declared.answer.Answer.{Answer}
use Rattle.gp_machine.specs.Refusals.{refusal_name, refusal_number}
use Rattle.gp_trace.specs.Reply.{numbered, leaving_text, alloc_text, next_alloc_text, allocs_text, phase_text, row_text, reply_text}
use Rattle.gp_trace.specs.Text.{of_unit, command_text, event_text, sent_text, grant_text, alarm_text, answer_text}

-- neither a line feed nor a carriage return
abbrev pub is_inside : ℕ → Bool
is_inside octet = not (octet == 10) && not (octet == 13)

abbrev pub Inside : List ℕ → Type 0
Inside text = All (λ octet. is_inside octet ≡ true) text

pub word_inside : (word : List ℕ) → list_all is_inside word ≡ true → Inside word
word_inside word h = AllPass-from_list_all is_inside word h

pub both_inside : (first second : List ℕ) → Inside first → Inside second → Inside (first ++ second)
both_inside first second one other = All-append (λ (o : ℕ). is_inside o ≡ true) first second one other

-- ---- numbers

glyph_inside : (d : ℕ) → is_inside (digit_glyph false d) ≡ true
glyph_inside d =
    elim (cases_Bool (nat_lt d 10)) [
      | inl low ↦ rw low (grind (arith, nat_tests))
      | inr high ↦ rw high (grind (arith, nat_tests))
    ]

onto_inside : (k n : ℕ) (behind : List ℕ) → Inside behind → Inside (digits_onto k 10 false n behind)
onto_inside zero n behind h = h
onto_inside (suc k) n behind h =
    let more = All-cons (λ (o : ℕ). is_inside o ≡ true) (digit_glyph false (n % 10)) behind (glyph_inside (n % 10)) h in
    elim (cases_Bool (n / 10 == 0)) [
      | inl last ↦ rw last more
      | inr others ↦ rw others (onto_inside k (n / 10) (digit_glyph false (n % 10) ∷ behind) more)
    ]

pub number_inside : (number : ℕ) → Inside (decimal number)
unfolding digits
number_inside number = onto_inside 64 number [] (All-nil (λ (o : ℕ). is_inside o ≡ true))

-- ---- octets in digits

entry_inside : (table : List ℕ) (k : ℕ) → Inside table → is_inside (slice_index table k) ≡ true
entry_inside table k all =
    elim (cases_lt k (length table)) [
      | inl within ↦ all k 0 within
      | inr past ↦ rw (get_or_past table k 0 past) refl
    ]

hex_inside : (table octets : List ℕ) → Inside table → Inside (encode_with table octets)
unfolding encode_with
hex_inside table [] all = All-nil (λ (o : ℕ). is_inside o ≡ true)
hex_inside table (octet ∷ octets) all =
    All-cons (λ (o : ℕ). is_inside o ≡ true) (slice_index table (octet / 16)) (slice_index table (octet % 16) ∷ encode_with table octets) (entry_inside table (octet / 16) all)
    (All-cons (λ (o : ℕ). is_inside o ≡ true) (slice_index table (octet % 16)) (encode_with table octets) (entry_inside table (octet % 16) all) (hex_inside table octets all))

pub code_inside : (octets : List ℕ) → Inside (encode_lower octets)
code_inside octets = hex_inside lower_digits octets (word_inside lower_digits refl)

upper_inside : (octets : List ℕ) → Inside (encode_upper octets)
upper_inside octets = hex_inside upper_digits octets (word_inside upper_digits refl)

vendor_inside : (octet : ℕ) → is_vendor_character octet ≡ true → is_inside octet ≡ true
vendor_inside octet h = grind (arith, nat_tests, h)

pub serial_inside : (serial : Serial) → Inside (text_of_serial serial)
unfolding text_of_serial
serial_inside serial =
    elim (cases_Bool (has_vendor_code serial.0)) [
      | inl code ↦
          rw code (
          both_inside (take 4 serial.0) (encode_upper (drop 4 serial.0))
          (All-weaker (λ o. is_vendor_character o ≡ true) (λ o. is_inside o ≡ true) vendor_inside (take 4 serial.0) (AllPass-from_list_all is_vendor_character (take 4 serial.0) code))
          (upper_inside (drop 4 serial.0))
          )
      | inr other ↦ rw other (upper_inside serial.0)
    ]

-- ---- words and numbers

pub numbered_inside : (word : List ℕ) (number : ℕ) → list_all is_inside word ≡ true → Inside (numbered word number)
numbered_inside word number h =
    both_inside (word ++ codes " ") (decimal number) (both_inside word (codes " ") (word_inside word h) (word_inside (codes " ") refl)) (number_inside number)

unit_inside : (word : List ℕ) (serial : Serial) → Inside word → Inside (of_unit word serial)
unit_inside word serial h =
    both_inside (word ++ codes " ") (text_of_serial serial) (both_inside word (codes " ") h (word_inside (codes " ") refl)) (serial_inside serial)

-- a text, a closed text and a text
pub joined_inside : (first word second : List ℕ) → Inside first → list_all is_inside word ≡ true → Inside second → Inside ((first ++ word) ++ second)
joined_inside first word second one h other = both_inside (first ++ word) second (both_inside first word one (word_inside word h)) other

-- ---- events

command_inside : (command : Command) → Inside (command_text command)
command_inside commands.Search = word_inside (codes "search") refl
command_inside (commands.Alloc serial) = unit_inside (codes "alloc") serial (word_inside (codes "alloc") refl)
command_inside (commands.Dealloc serial alloc) =
    joined_inside (of_unit (codes "dealloc") serial) (codes " ") (decimal alloc) (unit_inside (codes "dealloc") serial (word_inside (codes "dealloc") refl)) refl (number_inside alloc)
command_inside (commands.Deactivate serial) = unit_inside (codes "deactivate") serial (word_inside (codes "deactivate") refl)
command_inside (commands.Disable serial) = unit_inside (codes "disable") serial (word_inside (codes "disable") refl)
command_inside (commands.Enable serial) = unit_inside (codes "enable") serial (word_inside (codes "enable") refl)
command_inside commands.EnableAll = word_inside (codes "enable-all") refl
command_inside (commands.Popup serial) = unit_inside (codes "popup") serial (word_inside (codes "popup") refl)
command_inside commands.PopupAll = word_inside (codes "popup-all") refl
command_inside (commands.Show serial) = unit_inside (codes "show") serial (word_inside (codes "show") refl)

pub event_inside : (event : Event) → Inside (event_text event)
event_inside events.Frame = word_inside (codes "frame") refl
event_inside (events.Burst at octets) =
    joined_inside (numbered (codes "burst") at) (codes " ") (encode_lower octets) (numbered_inside (codes "burst") at refl) refl (code_inside octets)
event_inside (events.Command command) = command_inside command

-- ---- answers

name_inside : (refusal : Refusal) → list_all is_inside (refusal_name refusal) ≡ true
name_inside Stray = refl
name_inside _ = refl

leaving_inside : (leaving : Bool) → Inside (leaving_text leaving)
leaving_inside true = word_inside (codes "!") refl
leaving_inside false = All-nil (λ (o : ℕ). is_inside o ≡ true)

alloc_inside : (alloc : ℕ × Bool) → Inside (alloc_text alloc)
alloc_inside alloc = both_inside (decimal alloc.0) (leaving_text alloc.1) (number_inside alloc.0) (leaving_inside alloc.1)

more_inside : (allocs : List (ℕ × Bool)) → Inside (flat_map next_alloc_text allocs)
more_inside [] = All-nil (λ (o : ℕ). is_inside o ≡ true)
more_inside (alloc ∷ allocs) =
    both_inside (next_alloc_text alloc) (flat_map next_alloc_text allocs)
    (both_inside (codes ",") (alloc_text alloc) (word_inside (codes ",") refl) (alloc_inside alloc)) (more_inside allocs)

allocs_inside : (allocs : List (ℕ × Bool)) → Inside (allocs_text allocs)
allocs_inside [] = word_inside (codes "-") refl
allocs_inside (alloc ∷ allocs) = both_inside (alloc_text alloc) (flat_map next_alloc_text allocs) (alloc_inside alloc) (more_inside allocs)

phase_inside : (phase : Phase) → Inside (phase_text phase)
phase_inside (Ranging attempts seen) = numbered_inside (codes "ranging") attempts refl
phase_inside (Operating eqd dark garbled) = numbered_inside (codes "operating") eqd refl

row_inside : (row : Row) → Inside (row_text row)
row_inside row =
    joined_inside ((numbered (codes "unit") row.onu ++ codes " ") ++ phase_text row.phase) (codes " allocs ") (allocs_text (entries row.allocs))
    (joined_inside (numbered (codes "unit") row.onu) (codes " ") (phase_text row.phase) (numbered_inside (codes "unit") row.onu refl) refl (phase_inside row.phase))
    refl (allocs_inside (entries row.allocs))

reply_inside : (reply : Reply) → Inside (reply_text reply)
reply_inside replies.Ticked = word_inside (codes "ok") refl
reply_inside (replies.Refused refusal) =
    joined_inside (numbered (codes "refused") (refusal_number refusal)) (codes " ") (refusal_name refusal)
    (numbered_inside (codes "refused") (refusal_number refusal) refl) refl (word_inside (refusal_name refusal) (name_inside refusal))
reply_inside replies.Searching = word_inside (codes "searching") refl
reply_inside (replies.Found onu) = numbered_inside (codes "found") onu refl
reply_inside (replies.Again onu) = numbered_inside (codes "again") onu refl
reply_inside (replies.Repeat onu) = numbered_inside (codes "repeat") onu refl
reply_inside (replies.Restarted onu) = numbered_inside (codes "restarted") onu refl
reply_inside replies.DisabledSeen = word_inside (codes "disabled-seen") refl
reply_inside (replies.Ranged onu eqd) =
    joined_inside (numbered (codes "ranged") onu) (codes " ") (decimal eqd) (numbered_inside (codes "ranged") onu refl) refl (number_inside eqd)
reply_inside (replies.TooFar onu) = numbered_inside (codes "too-far") onu refl
reply_inside (replies.StillRanging onu) = numbered_inside (codes "still-ranging") onu refl
reply_inside (replies.Alive onu) = numbered_inside (codes "alive") onu refl
reply_inside (replies.Acked alloc) = numbered_inside (codes "acked") alloc refl
reply_inside (replies.Gasp onu) = numbered_inside (codes "gasp") onu refl
reply_inside (replies.Allocated alloc) = numbered_inside (codes "allocated") alloc refl
reply_inside (replies.Releasing alloc) = numbered_inside (codes "releasing") alloc refl
reply_inside (replies.Deactivated onu) = numbered_inside (codes "deactivated") onu refl
reply_inside replies.Disabled = word_inside (codes "disabled") refl
reply_inside replies.Enabled = word_inside (codes "enabled") refl
reply_inside replies.EnabledAll = word_inside (codes "enabled-all") refl
reply_inside (replies.PoppedUp onu) = numbered_inside (codes "popped-up") onu refl
reply_inside (replies.PoppedUpAll count) = numbered_inside (codes "popped-up-all") count refl
reply_inside (replies.Shown row) = row_inside row

sent_inside : (mask : Mask) (sent : Option Down) → Inside (sent_text mask sent)
sent_inside mask None = All-nil (λ (o : ℕ). is_inside o ≡ true)
sent_inside mask (Some message) =
    let code = code_of_down message (mask_value mask) in
    both_inside (codes " sent ") (encode_lower code) (word_inside (codes " sent ") refl) (code_inside code)

grant_inside : (grant : Option Grant) → Inside (grant_text grant)
grant_inside None = All-nil (λ (o : ℕ). is_inside o ≡ true)
grant_inside (Some grants.Search) = word_inside (codes " grant search") refl
grant_inside (Some (grants.Range onu)) = numbered_inside (codes " grant range") onu refl
grant_inside (Some (grants.Poll onu)) = numbered_inside (codes " grant poll") onu refl

kind_inside : (kind : AlarmKind) → list_all is_inside (alarm_name kind) ≡ true
kind_inside Los = refl
kind_inside _ = refl

alarm_inside : (alarm : Option Alarm) → Inside (alarm_text alarm)
alarm_inside None = All-nil (λ (o : ℕ). is_inside o ≡ true)
alarm_inside (Some alarm) =
    let name = alarm_name alarm.kind in
    unit_inside (codes " alarm " ++ name) alarm.serial
    (both_inside (codes " alarm ") name (word_inside (codes " alarm ") refl) (word_inside name (kind_inside alarm.kind)))

pub answer_inside : (mask : Mask) (answer : Answer) → Inside (answer_text mask answer)
answer_inside mask answer =
    let reply = reply_text answer.reply in
    let sent = sent_text mask answer.sent in
    let grant = grant_text answer.grant in
    let alarm = alarm_text answer.alarm in
    both_inside ((reply ++ sent) ++ grant) alarm
    (both_inside (reply ++ sent) grant (both_inside reply sent (reply_inside answer.reply) (sent_inside mask answer.sent)) (grant_inside answer.grant))
    (alarm_inside answer.alarm)
