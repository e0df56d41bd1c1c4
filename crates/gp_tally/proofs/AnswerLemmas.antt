-- What the text of an answer says is what the answer says.
use Rattle.std.proofs.Common.{◌≡◌, ℕ, ◌<◌, ◌^◌, Bool, true, false, List, [], ◌∷◌, ◌++◌, length, Option, None, Some, codes, refl, sym, ap, subst, ◌∙◌, ◌⊎◌, inl, inr, arith, append_assoc, append-nil}
use Rattle.std.specs.Prelude.{IfSome, decimal, not}
use Rattle.std.proofs.lemmas.Bool.{cases_Bool, cases_lt}
use Rattle.std.proofs.lemmas.Fmt.{decimal_is_IsNumeral}
use Rattle.std.proofs.lemmas.List.{get_or_past}
use Rattle.std.proofs.lemmas.List.Elements.{All-weaker}
use Rattle.std.proofs.lemmas.List.Splits.{slice_split_at, slice_split_none}
use Rattle.std.proofs.lemmas.List.Sums.{AllPass-from_list_all}
use Rattle.std.specs.Fmt.{digits}
use Rattle.std.specs.List.{All, list_all}
use Rattle.std.specs.Result.{result_ok}
use Rattle.hex.specs.Hex.{IsBytes}
use Rattle.gp_ploam.specs.declared.check.Mask.{Mask}
use Rattle.gp_ploam.specs.declared.message.Down.{Down}
use Rattle.gp_ploam.specs.declared.message.Serial.{Serial}
use Rattle.gp_serial.specs.Spelling.{Spells, text_of_serial}
use Rattle.gp_serial.proofs.TextLemmas.{Spells-text_of_serial}
use Rattle.gp_ranging.specs.declared.grant.Grant.{Grant}
use Rattle.gp_ranging.specs.declared.grant.Grant.TheVariants as grants
use Rattle.gp_alarms.specs.declared.alarm.Alarm.{Alarm}
use Rattle.gp_alarms.specs.declared.alarm.AlarmKind.{AlarmKind}
use Rattle.gp_alarms.specs.declared.alarm.AlarmKind.TheVariants.{Los}
use Rattle.gp_alarms.specs.Alarm.{alarm_name}
use Rattle.gp_machine.specs.declared.answer.Answer.{Answer}
use Rattle.gp_machine.specs.declared.refusal.Refusal.{Refusal}
use Rattle.gp_machine.specs.declared.refusal.Refusal.TheVariants.{Stray}
use Rattle.gp_machine.specs.declared.reply.Reply.{Reply}
use Rattle.gp_machine.specs.declared.reply.Reply.TheVariants as replies
use Rattle.gp_machine.specs.Refusals.{refusal_name, refusal_number}
use Rattle.gp_trace.specs.Reply.{reply_text}
use Rattle.gp_trace.specs.Text.{alarm_text, answer_text, grant_text, sent_text}
use Rattle.gp_lines.specs.Parts.{is_space, parts_of}
use Rattle.gp_lines.specs.Picks.{first_number}
use Rattle.gp_lines.specs.Reading.{serial_in}
use Rattle.gp_lines.specs.Told.{AreOctets}
use Rattle.gp_lines.proofs.ReadLemmas.{number_back, serial_back}
use Rattle.gp_lines.proofs.TextLemmas.{serial_is_plain}
use Rattle.gp_lines.proofs.ToldLemmas.{number_plain, unspaced}
use Rattle.gp_tally.specs.declared.told.Answered.{Answered}
use Rattle.gp_tally.specs.Entries.{answered_of, found_of, ranged_of, refused_of}
use Rattle.gp_tally.specs.Told.{alarm_by, alarm_with, answered_in, from_capital, kind_named, onu_by, ranged_by, refusal_numbered, refused_by}
use Rattle.gp_tally.proofs.CapitalLemmas.{Low, begins_high, both_low, from_first, from_none, front_low, word_low}

-- ---- parts

abbrev Whole : List ℕ → Type 0
Whole text = All (λ octet. is_space octet ≡ false) text

abbrev is_open : ℕ → Bool
is_open octet = not (is_space octet)

open_is : (octet : ℕ) → is_open octet ≡ true → is_space octet ≡ false
open_is octet h =
    elim (cases_Bool (is_space octet)) [
      | inl space ↦ cc (rw space at h)
      | inr other ↦ other
    ]

word_whole : (word : List ℕ) → list_all is_open word ≡ true → Whole word
word_whole word h = All-weaker (λ o. is_open o ≡ true) (λ o. is_space o ≡ false) open_is word (AllPass-from_list_all is_open word h)

-- a part before a space
spaced : (part rest : List ℕ) → Whole part → parts_of (part ++ 32 ∷ rest) ≡ part ∷ parts_of rest
unfolding parts_of
spaced part rest whole = slice_split_at is_space part 32 rest whole refl

-- the last part
alone : (part : List ℕ) → Whole part → parts_of part ≡ part ∷ []
unfolding parts_of
alone part whole = slice_split_none is_space part whole

-- nothing, or a space and more
abbrev IsTail : List ℕ → Type 0
IsTail text = (text ≡ []) ⊎ ((rest : List ℕ) × (text ≡ 32 ∷ rest))

tail_append : (first second : List ℕ) → IsTail first → IsTail second → IsTail (first ++ second)
tail_append first second (inl none) other = subst IsTail (ap (λ (t : List ℕ). t ++ second) (sym none)) other
tail_append first second (inr some) other = inr (some.0 ++ second, ap (λ (t : List ℕ). t ++ second) some.1)

-- the first part of a text
first_part : (part tail : List ℕ) → Whole part → IsTail tail → (others : List (List ℕ)) × (parts_of (part ++ tail) ≡ part ∷ others)
first_part part tail whole (inl none) = ([], ap parts_of (ap (λ (t : List ℕ). part ++ t) none ∙ append-nil part) ∙ alone part whole)
first_part part tail whole (inr some) = (parts_of some.0, ap parts_of (ap (λ (t : List ℕ). part ++ t) some.1) ∙ spaced part some.0 whole)

sent_tail : (mask : Mask) (sent : Option Down) → IsTail (sent_text mask sent)
sent_tail mask None = inl refl
sent_tail mask (Some down) = inr (_, refl)

grant_tail : (grant : Option Grant) → IsTail (grant_text grant)
grant_tail None = inl refl
grant_tail (Some grants.Search) = inr (_, refl)
grant_tail (Some (grants.Range onu)) = inr (_, refl)
grant_tail (Some (grants.Poll onu)) = inr (_, refl)

alarm_tail : (alarm : Option Alarm) → IsTail (alarm_text alarm)
alarm_tail None = inl refl
alarm_tail (Some alarm) = inr (_, refl)

-- ---- a reply

-- what is said by the first word, and the number behind it
abbrev Said : Type 0
Said = Option Refusal × Option ℕ × Bool

abbrev said_by : List (List ℕ) → Said
said_by parts = (refused_by parts, onu_by parts, ranged_by parts)

abbrev said_of : Reply → Said
said_of reply = (refused_of reply, found_of reply, ranged_of reply)

nothing : Said
nothing = (None, None, false)

abbrev SaysNothing : List ℕ → Type 0
SaysNothing word = (others : List (List ℕ)) → said_by (word ∷ others) ≡ (None, None, false)

refusal_back : (refusal : Refusal) → refusal_numbered (decimal (refusal_number refusal)) ≡ Some refusal
unfolding digits
refusal_back Stray = refl
refusal_back _ = refl

refusal_small : (refusal : Refusal) → refusal_number refusal < 2 ^ 64
refusal_small Stray = omega arith
refusal_small _ = omega arith

number_whole : (number : ℕ) → number < 2 ^ 64 → Whole (decimal number)
number_whole number small = unspaced (decimal number) (number_plain number small)

onu_back : (onu : ℕ) (others : List (List ℕ)) → onu < 2 ^ 16 → first_number (decimal onu ∷ others) ≡ Some onu
onu_back onu others small =
    ap result_ok (number_back 0 65535 (decimal onu) onu (decimal_is_IsNumeral onu (omega (arith, small))) (omega arith) (omega (arith, small)))

module _ (tail : List ℕ) (is : IsTail tail) where
  word_said : (word : List ℕ) → list_all is_open word ≡ true → SaysNothing word → said_by (parts_of (word ++ tail)) ≡ (None, None, false)
  word_said word plain silent = let first = first_part word tail (word_whole word plain) is in ap said_by first.1 ∙ silent first.0

  behind_said : (word rest : List ℕ) → list_all is_open word ≡ true → SaysNothing word → said_by (parts_of (word ++ 32 ∷ rest)) ≡ (None, None, false)
  behind_said word rest plain silent = ap said_by (spaced word rest (word_whole word plain)) ∙ silent (parts_of rest)

  refused_said : (refusal : Refusal) → said_by (parts_of (codes "refused" ++ 32 ∷ (decimal (refusal_number refusal) ++ 32 ∷ (refusal_name refusal ++ tail)))) ≡ (Some refusal, None, false)
  refused_said refusal =
      let number = decimal (refusal_number refusal) in
      let rest = refusal_name refusal ++ tail in
      ap said_by (spaced (codes "refused") (number ++ 32 ∷ rest) (word_whole (codes "refused") refl))
      ∙ ap (λ (ps : List (List ℕ)). said_by (codes "refused" ∷ ps)) (spaced number rest (number_whole (refusal_number refusal) (refusal_small refusal)))
      ∙ ap (λ (o : Option Refusal). (o, None, false)) (refusal_back refusal)

  refused_shape : (number name : List ℕ) → ((number ++ codes " ") ++ name) ++ tail ≡ number ++ 32 ∷ (name ++ tail)
  refused_shape number name = append_assoc (number ++ codes " ") name tail ∙ append_assoc number (codes " ") (name ++ tail)

  found_said : (onu : ℕ) → onu < 2 ^ 16 → said_by (parts_of (codes "found" ++ 32 ∷ (decimal onu ++ tail))) ≡ (None, Some onu, false)
  found_said onu small =
      let first = first_part (decimal onu) tail (number_whole onu (omega (arith, small))) is in
      ap said_by (spaced (codes "found") (decimal onu ++ tail) (word_whole (codes "found") refl))
      ∙ ap (λ (ps : List (List ℕ)). said_by (codes "found" ∷ ps)) first.1
      ∙ ap (λ (o : Option ℕ). (None, o, false)) (onu_back onu first.0 small)

  ranged_said : (rest : List ℕ) → said_by (parts_of (codes "ranged" ++ 32 ∷ rest)) ≡ (None, None, true)
  ranged_said rest = ap said_by (spaced (codes "ranged") rest (word_whole (codes "ranged") refl))

  reply_said : (reply : Reply) → IfSome (found_of reply) (λ onu. onu < 2 ^ 16) → said_by (parts_of (reply_text reply ++ tail)) ≡ said_of reply
  reply_said replies.Ticked small = word_said (codes "ok") refl (λ others. refl)
  reply_said (replies.Refused refusal) small =
      ap (λ (t : List ℕ). said_by (parts_of (codes "refused" ++ 32 ∷ t))) (refused_shape (decimal (refusal_number refusal)) (refusal_name refusal)) ∙ refused_said refusal
  reply_said replies.Searching small = word_said (codes "searching") refl (λ others. refl)
  reply_said (replies.Found onu) small = found_said onu small
  reply_said (replies.Again onu) small = behind_said (codes "again") _ refl (λ others. refl)
  reply_said (replies.Repeat onu) small = behind_said (codes "repeat") _ refl (λ others. refl)
  reply_said (replies.Restarted onu) small = behind_said (codes "restarted") _ refl (λ others. refl)
  reply_said replies.DisabledSeen small = word_said (codes "disabled-seen") refl (λ others. refl)
  reply_said (replies.Ranged onu eqd) small = ranged_said _
  reply_said (replies.TooFar onu) small = behind_said (codes "too-far") _ refl (λ others. refl)
  reply_said (replies.StillRanging onu) small = behind_said (codes "still-ranging") _ refl (λ others. refl)
  reply_said (replies.Alive onu) small = behind_said (codes "alive") _ refl (λ others. refl)
  reply_said (replies.Acked alloc) small = behind_said (codes "acked") _ refl (λ others. refl)
  reply_said (replies.Gasp onu) small = behind_said (codes "gasp") _ refl (λ others. refl)
  reply_said (replies.Allocated alloc) small = behind_said (codes "allocated") _ refl (λ others. refl)
  reply_said (replies.Releasing alloc) small = behind_said (codes "releasing") _ refl (λ others. refl)
  reply_said (replies.Deactivated onu) small = behind_said (codes "deactivated") _ refl (λ others. refl)
  reply_said replies.Disabled small = word_said (codes "disabled") refl (λ others. refl)
  reply_said replies.Enabled small = word_said (codes "enabled") refl (λ others. refl)
  reply_said replies.EnabledAll small = word_said (codes "enabled-all") refl (λ others. refl)
  reply_said (replies.PoppedUp onu) small = behind_said (codes "popped-up") _ refl (λ others. refl)
  reply_said (replies.PoppedUpAll count) small = behind_said (codes "popped-up-all") _ refl (λ others. refl)
  reply_said (replies.Shown row) small = behind_said (codes "unit") _ refl (λ others. refl)

regrouped : (reply sent grant alarm : List ℕ) → reply ++ sent ++ grant ++ alarm ≡ reply ++ (sent ++ grant ++ alarm)
regrouped reply sent grant alarm = simp append_assoc

answer_said : (mask : Mask) (answer : Answer) → IfSome (found_of answer.reply) (λ onu. onu < 2 ^ 16) → said_by (parts_of (answer_text mask answer)) ≡ said_of answer.reply
answer_said mask answer small =
    let sent = sent_text mask answer.sent in
    let grant = grant_text answer.grant in
    let alarm = alarm_text answer.alarm in
    ap (λ (t : List ℕ). said_by (parts_of t)) (regrouped (reply_text answer.reply) sent grant alarm)
    ∙ reply_said (sent ++ grant ++ alarm)
    (tail_append (sent ++ grant) alarm (tail_append sent grant (sent_tail mask answer.sent) (grant_tail answer.grant)) (alarm_tail answer.alarm)) answer.reply small

-- ---- an alarm

bytes_of : (octets : List ℕ) → All (λ octet. octet < 256) octets → IsBytes octets
bytes_of octets all = λ i.
    elim (cases_lt i (length octets)) [
      | inl within ↦ all i 0 within
      | inr past ↦ let none = get_or_past octets i 0 past in omega (arith, none)
    ]

serial_spelled : (serial : Serial) → AreOctets 8 serial.0 → Spells (text_of_serial serial) serial
serial_spelled serial octets = Spells-text_of_serial serial.0 octets.0 (bytes_of serial.0 octets.1)

name_open : (kind : AlarmKind) → list_all is_open (alarm_name kind) ≡ true
name_open Los = refl
name_open _ = refl

name_high : (kind : AlarmKind) (rest : List ℕ) → begins_high (alarm_name kind ++ rest) ≡ true
name_high Los rest = refl
name_high _ rest = refl

kind_back : (kind : AlarmKind) → kind_named (alarm_name kind) ≡ Some kind
kind_back Los = refl
kind_back _ = refl

alarm_back : (alarm : Alarm) → AreOctets 8 alarm.serial.0 → alarm_by (parts_of (alarm_name alarm.kind ++ 32 ∷ text_of_serial alarm.serial)) ≡ Some alarm
alarm_back alarm octets =
    let name = alarm_name alarm.kind in
    let serial = text_of_serial alarm.serial in
    let spelled = serial_spelled alarm.serial octets in
    let whole = unspaced serial (serial_is_plain serial alarm.serial spelled) in
    ap alarm_by (spaced name serial (word_whole name (name_open alarm.kind)) ∙ ap (λ (ps : List (List ℕ)). name ∷ ps) (alone serial whole))
    ∙ ap (λ (k : Option AlarmKind). alarm_with k (result_ok (serial_in serial))) (kind_back alarm.kind)
    ∙ ap (λ r. alarm_with (Some alarm.kind) (result_ok r)) (serial_back serial alarm.serial spelled)

alarm_shape : (front name serial : List ℕ) → front ++ (((codes " alarm " ++ name) ++ codes " ") ++ serial) ≡ (front ++ codes " alarm ") ++ (name ++ 32 ∷ serial)
alarm_shape front name serial = simp append_assoc

alarm_said : (front : List ℕ) (alarm : Option Alarm) → Low front → IfSome alarm (λ alarm. AreOctets 8 alarm.serial.0)
    → alarm_by (parts_of (from_capital (front ++ alarm_text alarm))) ≡ alarm
unfolding parts_of
alarm_said front None low octets = ap (λ (t : List ℕ). alarm_by (parts_of t)) (ap from_capital (append-nil front) ∙ from_none front low)
alarm_said front (Some alarm) low octets =
    let name = alarm_name alarm.kind in
    let serial = text_of_serial alarm.serial in
    ap (λ (t : List ℕ). alarm_by (parts_of t)) (
    ap from_capital (alarm_shape front name serial)
    ∙ from_first (front ++ codes " alarm ") (name ++ 32 ∷ serial) (both_low front (codes " alarm ") low (word_low (codes " alarm ") refl)) (name_high alarm.kind (32 ∷ serial))
    )
    ∙ alarm_back alarm octets

-- ---- all of it

abbrev with_alarm : Said → Option Alarm → Answered
with_alarm said alarm = record { refused = said.0; found = said.1; ranged = said.2; alarm = alarm }

pub answer_told : (mask : Mask) (answer : Answer) → IfSome (found_of answer.reply) (λ onu. onu < 2 ^ 16) → IfSome answer.alarm (λ alarm. AreOctets 8 alarm.serial.0)
    → answered_in (answer_text mask answer) ≡ answered_of answer
unfolding answered_in
answer_told mask answer small octets =
    let text = answer_text mask answer in
    let front = reply_text answer.reply ++ sent_text mask answer.sent ++ grant_text answer.grant in
    ap (λ (s : Said). with_alarm s (alarm_by (parts_of (from_capital text)))) (answer_said mask answer small)
    ∙ ap (λ (a : Option Alarm). with_alarm (said_of answer.reply) a) (alarm_said front answer.alarm (front_low mask answer.reply answer.sent answer.grant) octets)
