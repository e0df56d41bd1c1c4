-- What is read of the answer to a frame.
use Rattle.std.proofs.Common.{◌≡◌, ℕ, ◌<◌, true, false, List, [], ◌∷◌, ◌++◌, Option, None, Some, Ok, codes, refl, ap, ◌∙◌, arith, append_assoc}
use Rattle.std.specs.Prelude.{decimal}
use Rattle.std.specs.Option.{ForSome}
use Rattle.std.specs.Str.{bytes_eq}
use Rattle.hex.specs.Hex.{encode_lower}
use Rattle.gp_ploam.specs.declared.message.Down.{Down}
use Rattle.gp_ploam.specs.declared.check.Mask.{Mask}
use Rattle.gp_ploam.specs.Mask.{mask_value}
use Rattle.gp_ploam.specs.Down.{code_of_down}
use Rattle.gp_serial.specs.Spelling.{text_of_serial}
use Rattle.gp_ranging.specs.declared.grant.Grant.{Grant}
use Rattle.gp_ranging.specs.declared.grant.Grant.TheVariants as grants
use Rattle.gp_alarms.specs.declared.alarm.Alarm.{Alarm}
use Rattle.gp_alarms.specs.Alarm.{alarm_name}
use Rattle.gp_machine.specs.declared.answer.Answer.{Answer}
use Rattle.gp_machine.specs.declared.reply.Reply.{Reply}
use Rattle.gp_machine.specs.declared.reply.Reply.TheVariants.{Ticked}
use Rattle.gp_trace.specs.Reply.{reply_text}
use Rattle.gp_trace.specs.Text.{sent_text, grant_text, alarm_text, answer_text}
use Rattle.gp_lines.specs.Told.{AreOctets}
use Rattle.gp_log.specs.declared.fault.LogFault.TheVariants as fault
use Rattle.gp_log.specs.declared.line.LogLine.TheVariants as line
use Rattle.gp_log.specs.declared.said.Said.{Said}
use Rattle.gp_log.specs.declared.said.Said.TheVariants as said
use Rattle.gp_log.specs.Fields.{next, trimmed, is_parted}
use Rattle.gp_log.specs.Says.{next_onu, word_grant, next_grant}
use Rattle.gp_log.specs.Trace.{next_sent, next_granted, is_end, frame_said, frame_line}
use Rattle.gp_log.specs.Text.{IsOctetGrant}
use Rattle.gp_log.specs.Told.{sent_said, granted_said, AnswersFrame}
use Rattle.gp_log.proofs.DigitLemmas.{next_behind, number_next, number_read, code_next}

-- ---- the alarm

-- what stands behind the word
abbrev alarm_rest : Alarm → List ℕ
alarm_rest alarm = 32 ∷ ((alarm_name alarm.kind ++ codes " ") ++ text_of_serial alarm.serial)

alarm_apart : (alarm : Alarm) → alarm_text (Some alarm) ≡ 32 ∷ (codes "alarm" ++ alarm_rest alarm)
alarm_apart alarm = simp append_assoc

alarm_cut : (text : List ℕ) → next (32 ∷ (codes "alarm" ++ (32 ∷ text))) ≡ (codes "alarm", 32 ∷ text)
unfolding next trimmed
alarm_cut text = refl

no_field : next [] ≡ ([], [])
unfolding next trimmed
no_field = refl

alarm_word : (alarm : Alarm) → (next (alarm_text (Some alarm))).0 ≡ codes "alarm"
alarm_word alarm = ap (λ (t : List ℕ). (next t).0) (alarm_apart alarm) ∙ rw (alarm_cut ((alarm_name alarm.kind ++ codes " ") ++ text_of_serial alarm.serial)) refl

alarm_ends : (alarm : Option Alarm) → is_end (next (alarm_text alarm)).0 ≡ true
alarm_ends None = rw no_field refl
alarm_ends (Some alarm) = rw (alarm_word alarm) refl

alarm_parted : (alarm : Option Alarm) → is_parted (alarm_text alarm) ≡ true
alarm_parted None = refl
alarm_parted (Some alarm) = ap is_parted (alarm_apart alarm)

not_granted : (text word : List ℕ) → (next text).0 ≡ word → bytes_eq word (codes "grant") ≡ false → next_granted text ≡ Ok (None, text)
unfolding next_granted
not_granted text word is other = rw (is, other) refl

alarm_grants : (alarm : Option Alarm) → next_granted (alarm_text alarm) ≡ Ok (None, alarm_text alarm)
alarm_grants None = not_granted [] [] (rw no_field refl) refl
alarm_grants (Some alarm) = not_granted (alarm_text (Some alarm)) (codes "alarm") (alarm_word alarm) refl

not_sent : (text word : List ℕ) → (next text).0 ≡ word → bytes_eq word (codes "sent") ≡ false → next_sent text ≡ Ok (None, text)
unfolding next_sent
not_sent text word is other = rw (is, other) refl

alarm_sends : (alarm : Option Alarm) → next_sent (alarm_text alarm) ≡ Ok (None, alarm_text alarm)
alarm_sends None = not_sent [] [] (rw no_field refl) refl
alarm_sends (Some alarm) = not_sent (alarm_text (Some alarm)) (codes "alarm") (alarm_word alarm) refl

-- ---- the grant

grant_cut : (text : List ℕ) → next (32 ∷ (codes "grant" ++ (32 ∷ text))) ≡ (codes "grant", 32 ∷ text)
unfolding next trimmed
grant_cut text = refl

range_cut : (text : List ℕ) → next (32 ∷ (codes "range" ++ (32 ∷ text))) ≡ (codes "range", 32 ∷ text)
unfolding next trimmed
range_cut text = refl

poll_cut : (text : List ℕ) → next (32 ∷ (codes "poll" ++ (32 ∷ text))) ≡ (codes "poll", 32 ∷ text)
unfolding next trimmed
poll_cut text = refl

search_end : (text : List ℕ) → is_parted text ≡ true → next (32 ∷ (codes "search" ++ text)) ≡ (codes "search", text)
unfolding next trimmed
search_end [] h = refl
search_end (octet ∷ text) h = rw h refl

-- a grant without its word
abbrev named : Grant → List ℕ
named grants.Search = codes "search"
named (grants.Range onu) = codes "range" ++ (32 ∷ decimal onu)
named (grants.Poll onu) = codes "poll" ++ (32 ∷ decimal onu)

grant_apart : (grant : Grant) (text : List ℕ) → grant_text (Some grant) ++ text ≡ 32 ∷ (codes "grant" ++ (32 ∷ (named grant ++ text)))
grant_apart grants.Search text = refl
grant_apart (grants.Range onu) text = simp append_assoc
grant_apart (grants.Poll onu) text = simp append_assoc

onu_told : (onu : ℕ) (text : List ℕ) → onu < 256 → is_parted text ≡ true → next_onu (32 ∷ (decimal onu ++ text)) ≡ Ok (onu, text)
unfolding next_onu
onu_told onu text small h =
    rw (next_behind (decimal onu ++ text) ∙ number_next onu text (omega (arith, small)) h, number_read fault.Number 255 onu (omega (arith, small)) (omega (arith, small))) refl

grant_told : (grant : Grant) (text : List ℕ) → IsOctetGrant grant → is_parted text ≡ true → next_grant (32 ∷ (named grant ++ text)) ≡ Ok (grant, text)
unfolding word_grant
grant_told grants.Search text can h = rw (search_end text h) refl
grant_told (grants.Range onu) text can h = rw (range_cut (decimal onu ++ text), onu_told onu text can h) refl
grant_told (grants.Poll onu) text can h = rw (poll_cut (decimal onu ++ text), onu_told onu text can h) refl

granted_apart : (grant : Grant) (text : List ℕ) → IsOctetGrant grant → is_parted text ≡ true
    → next_granted (32 ∷ (codes "grant" ++ (32 ∷ (named grant ++ text)))) ≡ Ok (Some (said.Grant grant), text)
unfolding next_granted
granted_apart grant text can h = rw (grant_cut (named grant ++ text), grant_told grant text can h) refl

granted_told : (grant : Option Grant) (alarm : Option Alarm) → ForSome grant IsOctetGrant
    → next_granted (grant_text grant ++ alarm_text alarm) ≡ Ok (granted_said grant, alarm_text alarm)
granted_told None alarm can = alarm_grants alarm
granted_told (Some grant) alarm can =
    ap next_granted (grant_apart grant (alarm_text alarm)) ∙ granted_apart grant (alarm_text alarm) (can grant refl) (alarm_parted alarm)

granted_parted : (grant : Option Grant) (alarm : Option Alarm) → is_parted (grant_text grant ++ alarm_text alarm) ≡ true
granted_parted None alarm = alarm_parted alarm
granted_parted (Some grant) alarm = ap is_parted (grant_apart grant (alarm_text alarm))

granted_sends : (grant : Option Grant) (alarm : Option Alarm)
    → next_sent (grant_text grant ++ alarm_text alarm) ≡ Ok (None, grant_text grant ++ alarm_text alarm)
granted_sends None alarm = alarm_sends alarm
granted_sends (Some grant) alarm =
    let word : (next (grant_text (Some grant) ++ alarm_text alarm)).0 ≡ codes "grant" =
    ap (λ (t : List ℕ). (next t).0) (grant_apart grant (alarm_text alarm)) ∙ rw (grant_cut (named grant ++ alarm_text alarm)) refl in
    not_sent (grant_text (Some grant) ++ alarm_text alarm) (codes "grant") word refl

-- ---- the message

sent_cut : (text : List ℕ) → next (32 ∷ (codes "sent" ++ (32 ∷ text))) ≡ (codes "sent", 32 ∷ text)
unfolding next trimmed
sent_cut text = refl

sent_apart : (code text : List ℕ) → (codes " sent " ++ encode_lower code) ++ text ≡ 32 ∷ (codes "sent" ++ (32 ∷ (encode_lower code ++ text)))
sent_apart code text = refl

sent_code : (code text : List ℕ) → AreOctets 13 code → is_parted text ≡ true
    → next_sent (32 ∷ (codes "sent" ++ (32 ∷ (encode_lower code ++ text)))) ≡ Ok (Some (said.Down code), text)
unfolding next_sent
sent_code code text octets h = rw (sent_cut (encode_lower code ++ text), code_next code text octets.0 octets.1 h) refl

sent_told : (mask : Mask) (sent : Option Down) (grant : Option Grant) (alarm : Option Alarm)
    → ForSome sent (λ message. AreOctets 13 (code_of_down message (mask_value mask)))
    → next_sent (sent_text mask sent ++ (grant_text grant ++ alarm_text alarm)) ≡ Ok (sent_said mask sent, grant_text grant ++ alarm_text alarm)
sent_told mask None grant alarm octets = granted_sends grant alarm
sent_told mask (Some message) grant alarm octets =
    sent_code (code_of_down message (mask_value mask)) (grant_text grant ++ alarm_text alarm) (octets message refl) (granted_parted grant alarm)

sent_parted : (mask : Mask) (sent : Option Down) (grant : Option Grant) (alarm : Option Alarm)
    → is_parted (sent_text mask sent ++ (grant_text grant ++ alarm_text alarm)) ≡ true
sent_parted mask None grant alarm = granted_parted grant alarm
sent_parted mask (Some _) grant alarm = refl

-- ---- the answer

behind_told : (port : ℕ) (text : List ℕ) (sent granted : Option Said) (second third : List ℕ) → next_sent text ≡ Ok (sent, second)
    → next_granted second ≡ Ok (granted, third) → is_end (next third).0 ≡ true → frame_said port text ≡ Ok (line.Trace port true sent granted)
unfolding frame_said
behind_told port text sent granted second third one two three = rw (one, two, three) refl

reply_cut : (text : List ℕ) → is_parted text ≡ true → next (codes "ok" ++ text) ≡ (codes "ok", text)
unfolding next trimmed
reply_cut [] h = refl
reply_cut (octet ∷ text) h = rw h refl

answer_apart : (mask : Mask) (answer : Answer) → answer.reply ≡ Ticked
    → answer_text mask answer ≡ codes "ok" ++ (sent_text mask answer.sent ++ (grant_text answer.grant ++ alarm_text answer.alarm))
answer_apart mask answer ticked =
    append_assoc (reply_text answer.reply ++ sent_text mask answer.sent) (grant_text answer.grant) (alarm_text answer.alarm)
    ∙ append_assoc (reply_text answer.reply) (sent_text mask answer.sent) (grant_text answer.grant ++ alarm_text answer.alarm)
    ∙ ap (λ (r : Reply). reply_text r ++ (sent_text mask answer.sent ++ (grant_text answer.grant ++ alarm_text answer.alarm))) ticked

pub frame_told : (mask : Mask) (port : ℕ) (answer : Answer) → AnswersFrame mask answer
    → frame_line port (answer_text mask answer) ≡ Ok (line.Trace port true (sent_said mask answer.sent) (granted_said answer.grant))
frame_told mask port answer told =
    let behind = sent_text mask answer.sent ++ (grant_text answer.grant ++ alarm_text answer.alarm) in
    let reply = reply_cut behind (sent_parted mask answer.sent answer.grant answer.alarm) in
    let said = behind_told port behind (sent_said mask answer.sent) (granted_said answer.grant) (grant_text answer.grant ++ alarm_text answer.alarm) (alarm_text answer.alarm)
    (sent_told mask answer.sent answer.grant answer.alarm told.sent) (granted_told answer.grant answer.alarm told.granted) (alarm_ends answer.alarm) in
    ap (frame_line port) (answer_apart mask answer told.ticked) ∙ rw reply said
