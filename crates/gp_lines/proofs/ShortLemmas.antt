-- How long a line of a trace is.
use Rattle.std.proofs.Common.{◌≡◌, ℕ, ◌+◌, ◌*◌, ◌≤◌, Bool, true, false, List, [], ◌∷◌, ◌++◌, length, map, Option, None, Some, codes, refl, arith, length-append}
use Rattle.std.specs.Prelude.{decimal}
use Rattle.std.proofs.lemmas.List.{length-map}
use Rattle.std.specs.FinMap.{entries, len, len-entries}
use Rattle.std.specs.List.{flat_map}
use Rattle.std.specs.Option.{ForSome}
use Rattle.hex.specs.Hex.{encode_lower, lower_digits}
use Rattle.hex.proofs.HexLemmas.{length-encode_with}
use Rattle.gp_ploam.specs.declared.check.Mask.{Mask}
use Rattle.gp_ploam.specs.declared.message.Down.{Down}
use Rattle.gp_ploam.specs.declared.message.Down.TheVariants.{UpstreamOverhead, AssignOnu, RangingTime, Deactivate, DisableSerial, EnableSerial, EnableAll, AssignAlloc, NoMessage, Popup, Other}
use Rattle.gp_ploam.specs.Crc.{crc_of}
use Rattle.gp_ploam.specs.Down.{down_row, code_of_down, IsProperDown}
use Rattle.gp_ploam.specs.Mask.{mask_value}
use Rattle.gp_ploam.specs.Row.{Cell, Is, Free, written, octet_of}
use Rattle.gp_ranging.specs.declared.grant.Grant.{Grant}
use Rattle.gp_ranging.specs.declared.grant.Grant.TheVariants as grants
use Rattle.gp_alarms.specs.declared.alarm.Alarm.{Alarm}
use Rattle.gp_alarms.specs.declared.alarm.AlarmKind.{AlarmKind}
use Rattle.gp_alarms.specs.declared.alarm.AlarmKind.TheVariants.{Los}
use Rattle.gp_alarms.specs.Alarm.{alarm_name}
use Rattle.gp_unit.specs.declared.row.Phase.{Phase}
use Rattle.gp_unit.specs.declared.row.Phase.TheVariants.{Ranging, Operating}
use Rattle.gp_unit.specs.declared.row.Row.{Row}
use Rattle.gp_machine.specs.declared.refusal.Refusal.{Refusal}
use Rattle.gp_machine.specs.declared.refusal.Refusal.TheVariants.{Stray}
use Rattle.gp_machine.specs.declared.reply.Reply.{Reply}
use Rattle.gp_machine.specs.declared.reply.Reply.TheVariants as replies
use Rattle.gp_machine.specs.declared.answer.Answer.{Answer}
use Rattle.gp_machine.specs.declared.entry.Receipt.{Receipt}
use Rattle.gp_machine.specs.Refusals.{refusal_name, refusal_number}
use Rattle.gp_trace.specs.Reply.{numbered, alloc_text, next_alloc_text, allocs_text, phase_text, row_text, reply_text, leaving_text}
use Rattle.gp_trace.specs.Text.{event_text, sent_text, grant_text, alarm_text, answer_text, line_of}
use Rattle.gp_lines.specs.Told.{IsTold}
use Rattle.gp_lines.specs.Short.{HasShortReply, IsShortAnswer}
use Rattle.gp_lines.proofs.LengthLemmas.{number_short, numbered_short, unit_short, event_short}
use Rattle.gp_lines.proofs.SplitLemmas.{body}

-- two texts, one behind the other
both_short : (m n : ℕ) (first second : List ℕ) → length first ≤ m → length second ≤ n → length (first ++ second) ≤ m + n
both_short m n first second one other = let all = length-append first second in omega (arith, all, one, other)

-- a text, a closed text and a text
joined_short : (m k n : ℕ) (first word second : List ℕ) → length first ≤ m → length word ≤ k → length second ≤ n → length ((first ++ word) ++ second) ≤ m + k + n
joined_short m k n first word second one middle other =
    both_short (m + k) n (first ++ word) second (both_short m k first word one middle) other

-- ---- replies

leaving_short : (leaving : Bool) → length (leaving_text leaving) ≤ 1
leaving_short true = omega arith
leaving_short false = omega arith

alloc_short : (alloc : ℕ × Bool) → length (alloc_text alloc) ≤ 65
alloc_short alloc = both_short 64 1 (decimal alloc.0) (leaving_text alloc.1) (number_short alloc.0) (leaving_short alloc.1)

more_short : (allocs : List (ℕ × Bool)) → length (flat_map next_alloc_text allocs) ≤ 66 * length allocs
more_short [] = omega arith
more_short (alloc ∷ allocs) =
    let all = length-append (next_alloc_text alloc) (flat_map next_alloc_text allocs) in
    let first = length-append (codes ",") (alloc_text alloc) in
    omega (arith, all, first, alloc_short alloc, more_short allocs)

allocs_short : (allocs : List (ℕ × Bool)) → length allocs ≤ 8 → length (allocs_text allocs) ≤ 600
allocs_short [] few = omega arith
allocs_short (alloc ∷ allocs) few =
    let all = length-append (alloc_text alloc) (flat_map next_alloc_text allocs) in
    omega (arith, all, alloc_short alloc, more_short allocs, few)

phase_short : (phase : Phase) → length (phase_text phase) ≤ 74
phase_short (Ranging attempts seen) = let short = numbered_short (codes "ranging") attempts in omega (arith, short)
phase_short (Operating eqd dark garbled) = let short = numbered_short (codes "operating") eqd in omega (arith, short)

row_short : (row : Row) → len row.allocs ≤ 8 → length (row_text row) ≤ 800
row_short row few =
    let unit = numbered_short (codes "unit") row.onu in
    let count = len-entries row.allocs in
    let front = joined_short 69 1 74 (numbered (codes "unit") row.onu) (codes " ") (phase_text row.phase) (omega (arith, unit)) (omega arith) (phase_short row.phase) in
    let all = joined_short 144 8 600 ((numbered (codes "unit") row.onu ++ codes " ") ++ phase_text row.phase) (codes " allocs ") (allocs_text (entries row.allocs)) front (omega arith) (allocs_short (entries row.allocs) (omega (arith, count, few))) in
    omega (arith, all)

name_short : (refusal : Refusal) → length (refusal_name refusal) ≤ 20
name_short Stray = omega arith
name_short _ = omega arith

word_short : (word : List ℕ) (number : ℕ) → length word ≤ 20 → length (numbered word number) ≤ 800
word_short word number few = let short = numbered_short word number in omega (arith, short, few)

reply_short : (reply : Reply) → HasShortReply reply → length (reply_text reply) ≤ 800
reply_short replies.Ticked few = omega arith
reply_short (replies.Refused refusal) few =
    let front = numbered_short (codes "refused") (refusal_number refusal) in
    let all = joined_short 72 1 20 (numbered (codes "refused") (refusal_number refusal)) (codes " ") (refusal_name refusal) (omega (arith, front)) (omega arith) (name_short refusal) in
    omega (arith, all)
reply_short replies.Searching few = omega arith
reply_short (replies.Found onu) few = word_short (codes "found") onu (omega arith)
reply_short (replies.Again onu) few = word_short (codes "again") onu (omega arith)
reply_short (replies.Repeat onu) few = word_short (codes "repeat") onu (omega arith)
reply_short (replies.Restarted onu) few = word_short (codes "restarted") onu (omega arith)
reply_short replies.DisabledSeen few = omega arith
reply_short (replies.Ranged onu eqd) few =
    let front = numbered_short (codes "ranged") onu in
    let all = joined_short 71 1 64 (numbered (codes "ranged") onu) (codes " ") (decimal eqd) (omega (arith, front)) (omega arith) (number_short eqd) in
    omega (arith, all)
reply_short (replies.TooFar onu) few = word_short (codes "too-far") onu (omega arith)
reply_short (replies.StillRanging onu) few = word_short (codes "still-ranging") onu (omega arith)
reply_short (replies.Alive onu) few = word_short (codes "alive") onu (omega arith)
reply_short (replies.Acked alloc) few = word_short (codes "acked") alloc (omega arith)
reply_short (replies.Gasp onu) few = word_short (codes "gasp") onu (omega arith)
reply_short (replies.Allocated alloc) few = word_short (codes "allocated") alloc (omega arith)
reply_short (replies.Releasing alloc) few = word_short (codes "releasing") alloc (omega arith)
reply_short (replies.Deactivated onu) few = word_short (codes "deactivated") onu (omega arith)
reply_short replies.Disabled few = omega arith
reply_short replies.Enabled few = omega arith
reply_short replies.EnabledAll few = omega arith
reply_short (replies.PoppedUp onu) few = word_short (codes "popped-up") onu (omega arith)
reply_short (replies.PoppedUpAll count) few = word_short (codes "popped-up-all") count (omega arith)
reply_short (replies.Shown row) few = row_short row few

-- ---- what else an answer has

serial_cells : (serial : List ℕ) (a b c : Cell) → length serial ≡ 8 → length (a ∷ b ∷ c ∷ map Is serial ++ Free 0 ∷ []) ≤ 12
serial_cells serial a b c eight =
    let all = length-append (map Is serial) (Free 0 ∷ []) in
    let mapped = length-map serial Is in
    omega (arith, all, mapped, eight)

body_cells : (octets : List ℕ) (a b : Cell) → length octets ≡ 10 → length (a ∷ b ∷ map Is octets) ≤ 12
body_cells octets a b ten = let mapped = length-map octets Is in omega (arith, mapped, ten)

row_cells : (message : Down) → IsProperDown message → length (down_row message) ≤ 12
row_cells (UpstreamOverhead burst) proper = body_cells burst (Is 255) (Is 1) proper
row_cells (AssignOnu onu serial) proper = serial_cells serial.0 (Is 255) (Is 3) (Is onu) proper
row_cells (RangingTime onu eqd) proper = omega arith
row_cells (Deactivate onu) proper = omega arith
row_cells (DisableSerial serial) proper = serial_cells serial.0 (Is 255) (Is 6) (Is 255) proper
row_cells (EnableSerial serial) proper = serial_cells serial.0 (Is 255) (Is 6) (Is 0) proper
row_cells EnableAll proper = omega arith
row_cells (AssignAlloc onu alloc keep) proper = omega arith
row_cells NoMessage proper = omega arith
row_cells (Popup onu) proper = omega arith
row_cells (Other id octet1 octets) proper = body_cells octets (Is octet1) (Is id) proper.0

code_short : (message : Down) (mask : ℕ) → IsProperDown message → length (encode_lower (code_of_down message mask)) ≤ 26
code_short message mask proper =
    let octets = written (down_row message) in
    let digits = length-encode_with lower_digits (code_of_down message mask) in
    let code = length-append octets (crc_of octets mask ∷ []) in
    let cells = length-map (down_row message) octet_of in
    omega (arith, digits, code, cells, row_cells message proper)

sent_short : (mask : Mask) (sent : Option Down) → ForSome sent IsProperDown → length (sent_text mask sent) ≤ 32
sent_short mask None proper = omega arith
sent_short mask (Some message) proper =
    both_short 6 26 (codes " sent ") (encode_lower (code_of_down message (mask_value mask))) (omega arith) (code_short message (mask_value mask) (proper message refl))

grant_short : (grant : Option Grant) → length (grant_text grant) ≤ 80
grant_short None = omega arith
grant_short (Some grants.Search) = omega arith
grant_short (Some (grants.Range onu)) = let short = numbered_short (codes " grant range") onu in omega (arith, short)
grant_short (Some (grants.Poll onu)) = let short = numbered_short (codes " grant poll") onu in omega (arith, short)

kind_short : (kind : AlarmKind) → length (alarm_name kind) ≤ 4
kind_short Los = omega arith
kind_short _ = omega arith

alarm_short : (alarm : Option Alarm) → ForSome alarm (λ a. length a.serial.0 ≡ 8) → length (alarm_text alarm) ≤ 28
alarm_short None eight = omega arith
alarm_short (Some alarm) eight =
    let name = alarm_name alarm.kind in
    let front = both_short 7 4 (codes " alarm ") name (omega arith) (kind_short alarm.kind) in
    let all = unit_short (codes " alarm " ++ name) alarm.serial (eight alarm refl) in
    omega (arith, front, all)

answer_short : (mask : Mask) (answer : Answer) → IsShortAnswer answer → length (answer_text mask answer) ≤ 940
answer_short mask answer short =
    let reply = reply_text answer.reply in
    let sent = sent_text mask answer.sent in
    let grant = grant_text answer.grant in
    let first = both_short 800 32 reply sent (reply_short answer.reply short.reply) (sent_short mask answer.sent short.sent) in
    let second = both_short 832 80 (reply ++ sent) grant first (grant_short answer.grant) in
    both_short 912 28 ((reply ++ sent) ++ grant) (alarm_text answer.alarm) second (alarm_short answer.alarm short.alarm)

body_short : (mask : Mask) (r : Receipt) → IsTold r.entry.event → IsShortAnswer r.entry.answer → length (body mask r) ≤ 1200
body_short mask r told short =
    let event = event_text r.entry.event in
    let two = joined_short 64 1 64 (decimal r.port) (codes " ") (decimal r.number) (number_short r.port) (omega arith) (number_short r.number) in
    let three = joined_short 129 1 100 ((decimal r.port ++ codes " ") ++ decimal r.number) (codes " ") event two (omega arith) (event_short r.entry.event told) in
    let all = joined_short 230 3 940 ((((decimal r.port ++ codes " ") ++ decimal r.number) ++ codes " ") ++ event) (codes " = ") (answer_text mask r.entry.answer) three (omega arith) (answer_short mask r.entry.answer short) in
    omega (arith, all)

pub line_short : (mask : Mask) (r : Receipt) → IsTold r.entry.event → IsShortAnswer r.entry.answer → length (line_of mask r) ≤ 4096
unfolding line_of
line_short mask r told short =
    let all = length-append (body mask r) (codes "\n") in
    let front = body_short mask r told short in
    omega (arith, all, front)
