-- What a port gave for an event: each reply and refusal, a message that was sent, a grant and an alarm are told by their
-- fields.
use Rattle.std.proofs.Common.{◌≡◌, ℕ, true, List, [], ◌∷◌, ◌++◌, Option, None, Some, codes, refl, sym, subst, ◌∙◌, inl, inr, append_assoc, append-nil, ap, arith}
use Rattle.std.specs.Prelude.{decimal}
use Rattle.std.specs.FinMap.{entries}
use Rattle.std.specs.List.{list_all}
use Rattle.hex.specs.Hex.{encode_lower}
use Rattle.gp_ploam.specs.declared.check.Mask.{Mask}
use Rattle.gp_ploam.specs.declared.message.Down.{Down}
use Rattle.gp_ploam.specs.Down.{code_of_down}
use Rattle.gp_ploam.specs.Mask.{mask_value}
use Rattle.gp_serial.specs.Spelling.{text_of_serial}
use Rattle.gp_ranging.specs.declared.grant.Grant.{Grant}
use Rattle.gp_ranging.specs.declared.grant.Grant.TheVariants as grants
use Rattle.gp_alarms.specs.declared.alarm.Alarm.{Alarm}
use Rattle.gp_alarms.specs.declared.alarm.AlarmKind.{AlarmKind}
use Rattle.gp_alarms.specs.declared.alarm.AlarmKind.TheVariants.{Los}
use Rattle.gp_alarms.specs.Alarm.{alarm_name}
use Rattle.gp_unit.specs.declared.row.Phase.{Phase}
use Rattle.gp_unit.specs.declared.row.Phase.TheVariants.{Ranging, Operating}
use Rattle.gp_unit.specs.declared.row.Row.{Row}
use Rattle.gp_machine.specs.declared.answer.Answer.{Answer}
use Rattle.gp_machine.specs.declared.refusal.Refusal.{Refusal}
use Rattle.gp_machine.specs.declared.refusal.Refusal.TheVariants.{Stray}
use Rattle.gp_machine.specs.Refusals.{refusal_name, refusal_number}
use Rattle.gp_machine.specs.declared.reply.Reply.{Reply}
use Rattle.gp_machine.specs.declared.reply.Reply.TheVariants as replies
use Rattle.gp_trace.specs.Reply.{allocs_text, phase_text, reply_text}
use Rattle.gp_trace.specs.Text.{alarm_text, answer_text, grant_text, sent_text}
use Rattle.gp_json.specs.declared.slot.Slot.{Slot}
use Rattle.gp_json.specs.declared.slot.Slot.TheVariants as slots
use Rattle.gp_json.specs.Fields.{TellsPart}
use Rattle.gp_json.specs.Slots.{after_allocs_word, after_grant, after_phase, after_reply, slot_after}
use Rattle.gp_entry_objects.specs.Held.{GrantHolds, IsSmall, PhaseHolds, ReplyHolds, SentHolds}
use Rattle.gp_entry_objects.proofs.SpaceLemmas.{Whole, allocs_whole, code_whole, is_open, number_is, number_whole, serial_whole, word_whole}
use Rattle.gp_entry_objects.proofs.StepLemmas.{Behind, ToldAt, part_told}

-- ---- an alarm

kind_open : (kind : AlarmKind) → list_all is_open (alarm_name kind) ≡ true
kind_open Los = refl
kind_open _ = refl

-- its kind and its serial number
of_alarm : (told : Mask) (alarm : Alarm) → ToldAt told slots.Alarm ((alarm_name alarm.kind ++ codes " ") ++ text_of_serial alarm.serial)
of_alarm told alarm =
    let serial = text_of_serial alarm.serial in
    let name = alarm_name alarm.kind in
    let last : ToldAt told slots.AlarmSerial (serial ++ []) = part_told told slots.AlarmSerial serial [] _ (serial_whole alarm.serial) refl (inl (refl, refl)) in
    subst (ToldAt told slots.Alarm) (ap (λ (t : List ℕ). name ++ 32 ∷ t) (append-nil serial) ∙ sym (append_assoc name (codes " ") serial))
    (part_told told slots.Alarm name (32 ∷ (serial ++ [])) _ (word_whole name (kind_open alarm.kind)) refl (inr (serial ++ [], refl, last)))

alarm_word : (told : Mask) (alarm : Alarm) (slot : Slot) → slot_after slot (codes "alarm") ≡ slots.Alarm
    → TellsPart told slot (codes "alarm") []
    → ToldAt told slot (codes "alarm" ++ 32 ∷ ((alarm_name alarm.kind ++ codes " ") ++ text_of_serial alarm.serial))
alarm_word told alarm slot next silent =
    part_told told slot (codes "alarm") _ [] (word_whole (codes "alarm") refl) silent
    (inr (_, refl, subst (λ (s : Slot). ToldAt told s ((alarm_name alarm.kind ++ codes " ") ++ text_of_serial alarm.serial)) (sym next) (of_alarm told alarm)))

alarm_behind : (told : Mask) (alarm : Option Alarm) → Behind told slots.Behind (alarm_text alarm)
alarm_behind told None = inl (refl, refl)
alarm_behind told (Some alarm) = inr (_, refl, alarm_word told alarm slots.Behind refl refl)

alarm_behind_sent : (told : Mask) (alarm : Option Alarm) → Behind told slots.BehindSent (alarm_text alarm)
alarm_behind_sent told None = inl (refl, refl)
alarm_behind_sent told (Some alarm) = inr (_, refl, alarm_word told alarm slots.BehindSent refl refl)

alarm_behind_grant : (told : Mask) (alarm : Option Alarm) → Behind told slots.BehindGrant (alarm_text alarm)
alarm_behind_grant told None = inl (refl, refl)
alarm_behind_grant told (Some alarm) = inr (_, refl, alarm_word told alarm slots.BehindGrant refl refl)

-- ---- a grant

-- its word and its ONU-ID, before an alarm
of_grant : (told : Mask) (word : List ℕ) (onu : ℕ) (alarm : Option Alarm) → list_all is_open word ≡ true → after_grant word ≡ slots.GrantOnu → IsSmall onu
    → ToldAt told slots.Grant (word ++ 32 ∷ (decimal onu ++ alarm_text alarm))
of_grant told word onu alarm plain next small =
    let number : ToldAt told slots.GrantOnu (decimal onu ++ alarm_text alarm) =
    part_told told slots.GrantOnu (decimal onu) (alarm_text alarm) _ (number_whole onu) (number_is onu small, refl) (alarm_behind_grant told alarm) in
    part_told told slots.Grant word _ _ (word_whole word plain) refl
    (inr (_, refl, subst (λ (s : Slot). ToldAt told s (decimal onu ++ alarm_text alarm)) (sym next) number))

-- one that stands there
grant_some : (told : Mask) (grant : Grant) (alarm : Option Alarm) → GrantHolds (Some grant)
    → (rest : List ℕ) × (grant_text (Some grant) ++ alarm_text alarm ≡ 32 ∷ (codes "grant" ++ 32 ∷ rest)) × ToldAt told slots.Grant rest
unfolding after_grant
grant_some told grants.Search alarm holds =
    (codes "search" ++ alarm_text alarm, refl, part_told told slots.Grant (codes "search") (alarm_text alarm) _ (word_whole (codes "search") refl) refl (alarm_behind_grant told alarm))
grant_some told (grants.Range onu) alarm holds = (codes "range" ++ 32 ∷ (decimal onu ++ alarm_text alarm), refl, of_grant told (codes "range") onu alarm refl refl holds)
grant_some told (grants.Poll onu) alarm holds = (codes "poll" ++ 32 ∷ (decimal onu ++ alarm_text alarm), refl, of_grant told (codes "poll") onu alarm refl refl holds)

grant_behind : (told : Mask) (grant : Option Grant) (alarm : Option Alarm) → GrantHolds grant → Behind told slots.Behind (grant_text grant ++ alarm_text alarm)
grant_behind told None alarm holds = alarm_behind told alarm
grant_behind told (Some grant) alarm holds =
    let some = grant_some told grant alarm holds in
    inr (codes "grant" ++ 32 ∷ some.0, some.1, part_told told slots.Behind (codes "grant") (32 ∷ some.0) [] (word_whole (codes "grant") refl) refl (inr (some.0, refl, some.2)))

grant_behind_sent : (told : Mask) (grant : Option Grant) (alarm : Option Alarm) → GrantHolds grant → Behind told slots.BehindSent (grant_text grant ++ alarm_text alarm)
grant_behind_sent told None alarm holds = alarm_behind_sent told alarm
grant_behind_sent told (Some grant) alarm holds =
    let some = grant_some told grant alarm holds in
    inr (codes "grant" ++ 32 ∷ some.0, some.1, part_told told slots.BehindSent (codes "grant") (32 ∷ some.0) [] (word_whole (codes "grant") refl) refl (inr (some.0, refl, some.2)))

-- ---- a message that was sent

abbrev rest_of : Option Grant → Option Alarm → List ℕ
rest_of grant alarm = grant_text grant ++ alarm_text alarm

sent_behind : (mask told : Mask) (sent : Option Down) (grant : Option Grant) (alarm : Option Alarm) → SentHolds mask told sent → GrantHolds grant
    → Behind told slots.Behind (sent_text mask sent ++ rest_of grant alarm)
sent_behind mask told None grant alarm code holds = grant_behind told grant alarm holds
sent_behind mask told (Some message) grant alarm code holds =
    let octets = code_of_down message (mask_value mask) in
    let tail = rest_of grant alarm in
    let last : ToldAt told slots.Sent (encode_lower octets ++ tail) =
    part_told told slots.Sent (encode_lower octets) tail _ (code_whole octets) (octets, code.message, code.fields, code.spelled, code.tells, code.shows, refl)
    (grant_behind_sent told grant alarm holds) in
    inr (
      codes "sent" ++ 32 ∷ (encode_lower octets ++ tail),
      refl,
      part_told told slots.Behind (codes "sent") (32 ∷ (encode_lower octets ++ tail)) [] (word_whole (codes "sent") refl) refl (inr (encode_lower octets ++ tail, refl, last)),
    )

-- ---- a reply

module _ (told : Mask) (tail : List ℕ) (behind : Behind told slots.Behind tail) where
  word_told : (word : List ℕ) → list_all is_open word ≡ true → after_reply word ≡ slots.Behind → ToldAt told slots.Reply (word ++ tail)
  word_told word plain next =
      part_told told slots.Reply word tail _ (word_whole word plain) refl (subst (λ (s : Slot). Behind told s tail) (sym next) behind)

  -- a word and an ONU-ID
  onu_told : (word : List ℕ) (onu : ℕ) → list_all is_open word ≡ true → after_reply word ≡ slots.Onu → IsSmall onu → ToldAt told slots.Reply (word ++ 32 ∷ (decimal onu ++ tail))
  onu_told word onu plain next small =
      let number : ToldAt told slots.Onu (decimal onu ++ tail) = part_told told slots.Onu (decimal onu) tail _ (number_whole onu) (number_is onu small, refl) behind in
      part_told told slots.Reply word _ _ (word_whole word plain) refl (inr (_, refl, subst (λ (s : Slot). ToldAt told s (decimal onu ++ tail)) (sym next) number))

  -- a word and an Alloc-ID
  alloc_told : (word : List ℕ) (alloc : ℕ) → list_all is_open word ≡ true → after_reply word ≡ slots.Alloc → IsSmall alloc → ToldAt told slots.Reply (word ++ 32 ∷ (decimal alloc ++ tail))
  alloc_told word alloc plain next small =
      let number : ToldAt told slots.Alloc (decimal alloc ++ tail) = part_told told slots.Alloc (decimal alloc) tail _ (number_whole alloc) (number_is alloc small, refl) behind in
      part_told told slots.Reply word _ _ (word_whole word plain) refl (inr (_, refl, subst (λ (s : Slot). ToldAt told s (decimal alloc ++ tail)) (sym next) number))

  -- two numbers with a text behind them
  two_shape : (first second : List ℕ) → ((first ++ codes " ") ++ second) ++ tail ≡ first ++ 32 ∷ (second ++ tail)
  two_shape first second = append_assoc (first ++ codes " ") second tail ∙ append_assoc first (codes " ") (second ++ tail)

  ranged_told : (onu eqd : ℕ) → IsSmall onu → IsSmall eqd → ToldAt told slots.RangedOnu (((decimal onu ++ codes " ") ++ decimal eqd) ++ tail)
  ranged_told onu eqd small_onu small_eqd =
      let last : ToldAt told slots.Eqd (decimal eqd ++ tail) = part_told told slots.Eqd (decimal eqd) tail _ (number_whole eqd) (number_is eqd small_eqd, refl) behind in
      subst (ToldAt told slots.RangedOnu) (sym (two_shape (decimal onu) (decimal eqd)))
      (part_told told slots.RangedOnu (decimal onu) (32 ∷ (decimal eqd ++ tail)) _ (number_whole onu) (number_is onu small_onu, refl) (inr (_, refl, last)))

  name_open : (refusal : Refusal) → list_all is_open (refusal_name refusal) ≡ true
  name_open Stray = refl
  name_open _ = refl

  number_small : (refusal : Refusal) → IsSmall (refusal_number refusal)
  number_small Stray = omega arith
  number_small _ = omega arith

  refused_told : (refusal : Refusal) → ToldAt told slots.Refusal (((decimal (refusal_number refusal) ++ codes " ") ++ refusal_name refusal) ++ tail)
  refused_told refusal =
      let name = refusal_name refusal in
      let number = refusal_number refusal in
      let last : ToldAt told slots.Reason (name ++ tail) = part_told told slots.Reason name tail _ (word_whole name (name_open refusal)) refl behind in
      subst (ToldAt told slots.Refusal) (sym (two_shape (decimal number) name))
      (part_told told slots.Refusal (decimal number) (32 ∷ (name ++ tail)) _ (number_whole number) (number_is number (number_small refusal), refl) (inr (_, refl, last)))

  -- Alloc-IDs behind their word
  allocs_told : (allocs : List ℕ) → Whole allocs → ToldAt told slots.AllocsWord (codes "allocs" ++ 32 ∷ (allocs ++ tail))
  unfolding after_allocs_word
  allocs_told allocs whole =
      let last : ToldAt told slots.Allocs (allocs ++ tail) = part_told told slots.Allocs allocs tail _ whole refl behind in
      part_told told slots.AllocsWord (codes "allocs") (32 ∷ (allocs ++ tail)) [] (word_whole (codes "allocs") refl) refl (inr (_, refl, last))

  -- a phase with its number, before them
  abbrev allocs_tail : List ℕ → List ℕ
  allocs_tail allocs = 32 ∷ (codes "allocs" ++ 32 ∷ (allocs ++ tail))

  phase_told : (phase : Phase) (allocs : List ℕ) → PhaseHolds phase → Whole allocs → ToldAt told slots.Phase (phase_text phase ++ allocs_tail allocs)
  unfolding after_phase
  phase_told (Ranging attempts seen) allocs small whole =
      let number : ToldAt told slots.Attempts (decimal attempts ++ allocs_tail allocs) =
      part_told told slots.Attempts (decimal attempts) (allocs_tail allocs) _ (number_whole attempts) (number_is attempts small, refl) (inr (_, refl, allocs_told allocs whole)) in
      part_told told slots.Phase (codes "ranging") (32 ∷ (decimal attempts ++ allocs_tail allocs)) _ (word_whole (codes "ranging") refl) refl (inr (_, refl, number))
  phase_told (Operating eqd dark garbled) allocs small whole =
      let number : ToldAt told slots.UnitEqd (decimal eqd ++ allocs_tail allocs) =
      part_told told slots.UnitEqd (decimal eqd) (allocs_tail allocs) _ (number_whole eqd) (number_is eqd small, refl) (inr (_, refl, allocs_told allocs whole)) in
      part_told told slots.Phase (codes "operating") (32 ∷ (decimal eqd ++ allocs_tail allocs)) _ (word_whole (codes "operating") refl) refl (inr (_, refl, number))

  unit_shape : (onu phase allocs : List ℕ)
      → ((((onu ++ codes " ") ++ phase) ++ codes " allocs ") ++ allocs) ++ tail ≡ onu ++ 32 ∷ (phase ++ allocs_tail allocs)
  unit_shape onu phase allocs =
      append_assoc (((onu ++ codes " ") ++ phase) ++ codes " allocs ") allocs tail ∙ append_assoc ((onu ++ codes " ") ++ phase) (codes " allocs ") (allocs ++ tail)
      ∙ append_assoc (onu ++ codes " ") phase (codes " allocs " ++ (allocs ++ tail)) ∙ append_assoc onu (codes " ") (phase ++ (codes " allocs " ++ (allocs ++ tail)))

  unit_told : (row : Row) → IsSmall row.onu → PhaseHolds row.phase
      → ToldAt told slots.UnitOnu (((((decimal row.onu ++ codes " ") ++ phase_text row.phase) ++ codes " allocs ") ++ allocs_text (entries row.allocs)) ++ tail)
  unit_told row small phase =
      let allocs = allocs_text (entries row.allocs) in
      let onu = decimal row.onu in
      subst (ToldAt told slots.UnitOnu) (sym (unit_shape onu (phase_text row.phase) allocs))
      (part_told told slots.UnitOnu onu (32 ∷ (phase_text row.phase ++ allocs_tail allocs)) _ (number_whole row.onu) (number_is row.onu small, refl)
      (inr (_, refl, phase_told row.phase allocs phase (allocs_whole (entries row.allocs)))))

  pub reply_told : (reply : Reply) → ReplyHolds reply → ToldAt told slots.Reply (reply_text reply ++ tail)
  unfolding after_reply
  reply_told replies.Ticked holds = word_told (codes "ok") refl refl
  reply_told (replies.Refused refusal) holds =
      part_told told slots.Reply (codes "refused") (32 ∷ (((decimal (refusal_number refusal) ++ codes " ") ++ refusal_name refusal) ++ tail)) _ (word_whole (codes "refused") refl) refl
      (inr (_, refl, refused_told refusal))
  reply_told replies.Searching holds = word_told (codes "searching") refl refl
  reply_told (replies.Found onu) holds = onu_told (codes "found") onu refl refl holds
  reply_told (replies.Again onu) holds = onu_told (codes "again") onu refl refl holds
  reply_told (replies.Repeat onu) holds = onu_told (codes "repeat") onu refl refl holds
  reply_told (replies.Restarted onu) holds = onu_told (codes "restarted") onu refl refl holds
  reply_told replies.DisabledSeen holds = word_told (codes "disabled-seen") refl refl
  reply_told (replies.Ranged onu eqd) holds =
      part_told told slots.Reply (codes "ranged") (32 ∷ (((decimal onu ++ codes " ") ++ decimal eqd) ++ tail)) _ (word_whole (codes "ranged") refl) refl
      (inr (_, refl, ranged_told onu eqd holds.0 holds.1))
  reply_told (replies.TooFar onu) holds = onu_told (codes "too-far") onu refl refl holds
  reply_told (replies.StillRanging onu) holds = onu_told (codes "still-ranging") onu refl refl holds
  reply_told (replies.Alive onu) holds = onu_told (codes "alive") onu refl refl holds
  reply_told (replies.Acked alloc) holds = alloc_told (codes "acked") alloc refl refl holds
  reply_told (replies.Gasp onu) holds = onu_told (codes "gasp") onu refl refl holds
  reply_told (replies.Allocated alloc) holds = alloc_told (codes "allocated") alloc refl refl holds
  reply_told (replies.Releasing alloc) holds = alloc_told (codes "releasing") alloc refl refl holds
  reply_told (replies.Deactivated onu) holds = onu_told (codes "deactivated") onu refl refl holds
  reply_told replies.Disabled holds = word_told (codes "disabled") refl refl
  reply_told replies.Enabled holds = word_told (codes "enabled") refl refl
  reply_told replies.EnabledAll holds = word_told (codes "enabled-all") refl refl
  reply_told (replies.PoppedUp onu) holds = onu_told (codes "popped-up") onu refl refl holds
  reply_told (replies.PoppedUpAll count) holds =
      let number : ToldAt told slots.Count (decimal count ++ tail) = part_told told slots.Count (decimal count) tail _ (number_whole count) (number_is count holds, refl) behind in
      part_told told slots.Reply (codes "popped-up-all") (32 ∷ (decimal count ++ tail)) _ (word_whole (codes "popped-up-all") refl) refl (inr (_, refl, number))
  reply_told (replies.Shown row) holds =
      part_told told slots.Reply (codes "unit") (32 ∷ (((((decimal row.onu ++ codes " ") ++ phase_text row.phase) ++ codes " allocs ") ++ allocs_text (entries row.allocs)) ++ tail)) _
      (word_whole (codes "unit") refl) refl (inr (_, refl, unit_told row holds.0 holds.1))

-- the whole answer
answer_shape : (reply sent grant alarm : List ℕ) → ((reply ++ sent) ++ grant) ++ alarm ≡ reply ++ (sent ++ (grant ++ alarm))
answer_shape reply sent grant alarm = append_assoc (reply ++ sent) grant alarm ∙ append_assoc reply sent (grant ++ alarm)

pub answer_told : (mask told : Mask) (answer : Answer) → ReplyHolds answer.reply → SentHolds mask told answer.sent → GrantHolds answer.grant
    → ToldAt told slots.Reply (answer_text mask answer)
answer_told mask told answer reply sent grant =
    subst (ToldAt told slots.Reply) (sym (answer_shape (reply_text answer.reply) (sent_text mask answer.sent) (grant_text answer.grant) (alarm_text answer.alarm)))
    (reply_told told (sent_text mask answer.sent ++ rest_of answer.grant answer.alarm) (sent_behind mask told answer.sent answer.grant answer.alarm sent grant) answer.reply reply)
