-- The rules of units (G.984.3, clauses 9 and 10): one function a rule, with three answers. A unit hears a message after
-- it was sent, may miss a copy, and may take some frames to act: so most are judged by messages that were sent three
-- times, the last one some frames ago. How many is this profile's own rule.
use Rattle.std.specs.Prelude.{ℕ, suc, ◌+◌, ◌*◌, ◌/◌, ◌==◌, ◌&&◌, ◌||◌, nat_lt, nat_le, Bool, true, false, not, if◌then◌else◌, List, [], ◌∷◌, ◌++◌, map, length, Option, None, Some, slice_index}
use Rattle.std.specs.List.{list_all, list_any}
use Rattle.gp_ploam.specs.declared.message.Serial.{Serial}
use Rattle.gp_ploam.specs.declared.message.Down.{Down}
use Rattle.gp_ploam.specs.declared.message.Down.TheVariants.{AssignOnu, RangingTime, Deactivate, DisableSerial, AssignAlloc}
use Rattle.gp_ploam.specs.declared.message.Up.{Up}
use Rattle.gp_ploam.specs.declared.message.Up.TheVariants.{SerialNumber, Acknowledge}
use Rattle.gp_ploam.specs.declared.message.Up.TheVariants as up
use Rattle.gp_ploam.specs.OnuIds.{broadcast_onu}
use Rattle.gp_ploam.specs.Serials.{same_serial}
use Rattle.gp_ploam.specs.Up.{octet1_of}
use Rattle.gp_ranging.specs.declared.grant.Grant.{Grant}
use Rattle.gp_ranging.specs.declared.grant.Grant.TheVariants.{Search, Range, Poll}
use Rattle.gp_observer.specs.Observer.{is_unit_number}
use Rattle.gp_observer.specs.Watch.{same_message}
use Rattle.gp_observer.specs.UnitRules.{distance}
use Rattle.hear_rules.specs.declared.rule.Verdict.{Verdict}
use Rattle.hear_rules.specs.declared.rule.Verdict.TheVariants.{Kept, Broken, NotJudged}
use Rattle.hear_rules.specs.Facts.{Fact, Unknown, Nothing, Is, Sure, Yes, No, Unsure, broken_if, is_other}
use Rattle.hear_rules.specs.Known.{Number, Unheard, Nobodys, Of, Known}
use Rattle.hear_rules.specs.Rules.{Settings, judged_if}
use Rattle.hear_rules.specs.Copies.{Subject, OfNothing, OfDelay, OfAlloc, OfSerial, OfAllSerials, subject_of, same_subject}

-- ---- how often something was said of a subject

pub data Tally : Type 0 where
  -- nothing was
  Untold : Tally
  -- the last message, how often others were said before it, how often it was, and in which frame last
  Told : (message : Down) (before : ℕ) (times : ℕ) (last : ℕ) → Tally

abbrev pub Tallies : Type 0
Tallies = Subject → Tally

abbrev pub tally_after : Tally → ℕ → Down → Tally
tally_after Untold now message = Told message 0 1 now
tally_after (Told said before times last) now message =
    if same_message said message then Told said before (suc times) now else Told message (before + times) 1 now

-- by what is said of an Alloc-ID, or of all serial numbers, no rule of units goes
abbrev pub tallies_put : Tallies → Subject → Tally → Tallies
tallies_put tallies OfNothing tally = tallies
tallies_put tallies (OfAlloc onu alloc) tally = tallies
tallies_put tallies OfAllSerials tally = tallies
tallies_put tallies subject tally = λ other. if same_subject other subject then tally else tallies other

abbrev pub tallies_after : Tallies → ℕ → Down → Tallies
tallies_after tallies now message =
    tallies_put tallies (subject_of message) (tally_after (tallies (subject_of message)) now message)

-- of all messages
abbrev pub total : Tally → ℕ
total Untold = 0
total (Told _ before times last) = before + times

-- since it was so many, one message alone was said, three times or more
abbrev pub is_third : ℕ → Tally → Bool
is_third base Untold = false
is_third base (Told _ before times last) = nat_le before base && nat_le (base + 3) (before + times)

-- and its unit had the time to act
abbrev pub is_settled : ℕ → ℕ → ℕ → Tally → Bool
is_settled grace now base Untold = false
is_settled grace now base (Told message before times last) =
    is_third base (Told message before times last) && nat_lt (last + grace) now

-- ---- by which message a unit goes

pub data Notice : Type 0 where
  -- it isn't known which one it is
  NoticeUnknown : Notice
  -- none was sent since the beginning
  NoNotice : Notice
  -- by what was said of this subject since it was so many
  By : (subject : Subject) (base : ℕ) → Notice

pub record Notices : Type 0 where
  -- by what an ONU-ID got its holder, or lost it
  pub onu : ℕ → Notice
  -- how many Ranging_Time there were before its unit got this delay, and before the ONU-ID got this unit
  pub delay : ℕ → ℕ
  pub unit : ℕ → ℕ
  -- how many messages there were before a serial number was disabled
  pub disabled : Serial → ℕ

-- from the first message on, and from the middle on
abbrev pub notices_whole : Notices
notices_whole = record { onu = λ onu. NoNotice; delay = λ onu. 0; unit = λ onu. 0; disabled = λ serial. 0 }

abbrev pub notices_midway : Notices
notices_midway = record { onu = λ onu. NoticeUnknown; delay = λ onu. 0; unit = λ onu. 0; disabled = λ serial. 0 }

-- this unit holds the ONU-ID, or nobody does
abbrev pub is_of : Number → Serial → Bool
is_of Unheard serial = false
is_of Nobodys serial = false
is_of (Of holder delay answers) serial = same_serial serial holder

abbrev pub is_nobodys : Number → Bool
is_nobodys Unheard = false
is_nobodys Nobodys = true
is_nobodys (Of holder delay answers) = false

-- where a unit gets this ONU-ID: it or another one gets another holder, or loses its own
abbrev pub changes_hands : Known → ℕ → Serial → ℕ → Bool
changes_hands known onu serial other =
    if other == onu then not (is_of (known.numbers other) serial) else is_of (known.numbers other) serial

-- by this message the ONU-ID gets another holder, or loses its own, or it is known now that nobody holds it
abbrev pub changes_holder : Known → Down → ℕ → Bool
changes_holder known (AssignOnu onu serial) other =
    is_unit_number onu && changes_hands known onu serial other
changes_holder known (Deactivate onu) other =
    (onu == broadcast_onu || other == onu) && not (is_nobodys (known.numbers other))
changes_holder known (DisableSerial serial) other = is_of (known.numbers other) serial
changes_holder known _ other = false

-- its unit gets another delay, or one that may be another
abbrev pub is_other_delay : Sure → Bool
is_other_delay Yes = true
is_other_delay No = false
is_other_delay Unsure = true

abbrev pub gets_delay : Number → ℕ → Bool
gets_delay Unheard eqd = false
gets_delay Nobodys eqd = false
gets_delay (Of holder delay answers) eqd = is_other_delay (is_other delay eqd)

abbrev pub changes_delay : Known → Down → ℕ → Bool
changes_delay known (RangingTime onu eqd) other = other == onu && gets_delay (known.numbers other) eqd
changes_delay known _ other = false

-- the ONU-ID gets another unit
abbrev pub changes_unit : Known → Down → ℕ → Bool
changes_unit known (AssignOnu onu serial) other =
    is_unit_number onu && other == onu && not (is_of (known.numbers other) serial)
changes_unit known _ other = false

-- it is disabled now
abbrev pub is_enabled : Sure → Bool
is_enabled Yes = false
is_enabled No = true
is_enabled Unsure = true

abbrev pub changes_disabled : Known → Down → Serial → Bool
changes_disabled known (DisableSerial serial) other = same_serial other serial && is_enabled (known.disabled other)
changes_disabled known _ other = false

-- by what is known and was said before the message
abbrev pub notices_after : Known → Tallies → Notices → Down → Notices
notices_after known tallies notices message =
    record {
      onu = λ onu.
          if changes_holder known message onu
          then By (subject_of message) (total (tallies (subject_of message)))
          else notices.onu onu;
      delay = λ onu. if changes_delay known message onu then total (tallies (OfDelay onu)) else notices.delay onu;
      unit = λ onu. if changes_unit known message onu then total (tallies (OfDelay onu)) else notices.unit onu;
      disabled = λ serial.
          if changes_disabled known message serial then total (tallies (OfSerial serial)) else notices.disabled serial;
    }

abbrev pub has_heard : Settings → Tallies → ℕ → Notice → Bool
has_heard settings tallies now NoticeUnknown = false
has_heard settings tallies now NoNotice = true
has_heard settings tallies now (By subject base) = is_settled settings.grace now base (tallies subject)

abbrev pub after_grace : Settings → Tallies → ℕ → Notice → Verdict → Verdict
after_grace settings tallies now notice verdict = judged_if (has_heard settings tallies now notice) verdict

-- ---- `disabled`, `anew`: it asks though it is disabled, or holds an ONU-ID

abbrev pub disabled_of : Bool → Sure → Verdict
disabled_of heard Yes = judged_if heard Broken
disabled_of heard No = Kept
disabled_of heard Unsure = NotJudged

abbrev pub disabled : Settings → Known → Tallies → Notices → ℕ → Up → Verdict
disabled settings known tallies notices now (SerialNumber onu serial random flags) =
    judged_if (onu == broadcast_onu)
    (disabled_of (is_settled settings.grace now (notices.disabled serial) (tallies (OfSerial serial)))
    (known.disabled serial))
disabled settings known tallies notices now _ = NotJudged

abbrev pub anew_of : Settings → Tallies → Notices → ℕ → Fact ℕ → Verdict
anew_of settings tallies notices now Unknown = NotJudged
anew_of settings tallies notices now Nothing = Kept
anew_of settings tallies notices now (Is onu) = after_grace settings tallies now (notices.onu onu) Broken

abbrev pub anew : Settings → Known → Tallies → Notices → ℕ → Up → Verdict
anew settings known tallies notices now (SerialNumber onu serial random flags) =
    judged_if (onu == broadcast_onu) (anew_of settings tallies notices now (known.holds serial))
anew settings known tallies notices now _ = NotJudged

-- ---- `number`: it speaks with an ONU-ID that nobody holds, or gives its serial number with another unit's

abbrev pub speaks_as : Up → Serial → Verdict
speaks_as (SerialNumber onu serial random flags) holder = broken_if (not (same_serial serial holder))
speaks_as _ holder = Kept

abbrev pub number_of : Number → Up → Verdict
number_of Unheard message = NotJudged
number_of Nobodys message = Broken
number_of (Of holder delay answers) message = speaks_as message holder

-- or says anything but its serial number with 255; of this no grace
abbrev pub with_none : Up → Verdict
with_none (SerialNumber onu serial random flags) = Kept
with_none _ = Broken

-- whom nobody told anything that was captured may have an ONU-ID
abbrev pub number : Settings → Known → Tallies → Notices → Bool → ℕ → Up → Verdict
number settings known tallies notices down now message =
    if octet1_of message == broadcast_onu then with_none message
    else judged_if down
    (after_grace settings tallies now (notices.onu (octet1_of message))
    (number_of (known.numbers (octet1_of message)) message))

-- ---- `twice`: it answers, and all grants of the last frames that ask it were answered

-- a grant, its frame, the how manieth it is, and whether it was answered, unless it is a search
pub record Granted : Type 0 where
  pub grant : Grant
  pub at : ℕ
  pub number : ℕ
  pub answered : Bool

pub record Grants : Type 0 where
  -- the last ones, how many there were, and the frame of the last one that isn't kept any more
  pub kept : List Granted
  pub count : ℕ
  pub lost : Option ℕ
  -- the last search that a serial number answered
  pub searched : Serial → Option ℕ

abbrev pub no_grants : Grants
no_grants = record { kept = []; count = 0; lost = None; searched = λ serial. None }

-- so many are kept
abbrev pub grants_kept : ℕ
grants_kept = 64

abbrev pub granted_now : ℕ → Grant → ℕ → Granted
granted_now number grant now = record { grant = grant; at = now; number = number; answered = false }

-- the first goes where there is one too many
abbrev pub kept_of_all : ℕ → List Granted → List Granted
kept_of_all many [] = []
kept_of_all many (first ∷ others) = if nat_lt grants_kept many then others else first ∷ others

abbrev pub lost_of_all : ℕ → Option ℕ → List Granted → Option ℕ
lost_of_all many lost [] = lost
lost_of_all many lost (first ∷ others) = if nat_lt grants_kept many then Some first.at else lost

abbrev pub grants_after : ℕ → Grants → Grant → Grants
grants_after now grants grant =
    record grants {
      kept = kept_of_all (suc (length grants.kept)) (grants.kept ++ granted_now grants.count grant now ∷ []);
      count = suc grants.count;
      lost = lost_of_all (suc (length grants.kept)) grants.lost grants.kept;
    }

-- the grant asks for this message
abbrev pub asks_for : Grant → Up → Bool
asks_for Search (SerialNumber onu serial random flags) = onu == broadcast_onu
asks_for (Range given) (SerialNumber onu serial random flags) = onu == given
asks_for (Poll given) (SerialNumber onu serial random flags) = false
asks_for (Poll given) message = octet1_of message == given
asks_for _ message = false

-- it is one of the last frames, and asks for the message
abbrev pub may_answer : ℕ → ℕ → Granted → Up → Bool
may_answer grace now granted message = nat_le now (granted.at + grace) && asks_for granted.grant message

-- it has had this answer: who answers one search answered those before it
abbrev pub is_searched : Option ℕ → ℕ → Bool
is_searched None number = false
is_searched (Some last) number = nat_le number last

abbrev pub has_had : Grants → Granted → Up → Bool
has_had grants granted (SerialNumber onu serial random flags) =
    if onu == broadcast_onu then is_searched (grants.searched serial) granted.number else granted.answered
has_had grants granted message = granted.answered

abbrev pub waits_for : ℕ → ℕ → Grants → Granted → Up → Bool
waits_for grace now grants granted message =
    may_answer grace now granted message && not (has_had grants granted message)

-- the first that waits for the answer has it
abbrev pub first_waiting : ℕ → ℕ → Grants → List Granted → Up → Option ℕ
first_waiting grace now grants [] message = None
first_waiting grace now grants (granted ∷ others) message =
    if waits_for grace now grants granted message
    then Some granted.number
    else first_waiting grace now grants others message

abbrev pub marked : ℕ → Granted → Granted
marked number granted = if granted.number == number then record granted { answered = true } else granted

abbrev pub answered_by : Grants → ℕ → Up → Grants
answered_by grants number (SerialNumber onu serial random flags) =
    if onu == broadcast_onu
    then record grants {
      searched = λ other. if same_serial other serial then Some number else grants.searched other;
    }
    else record grants { kept = map (marked number) grants.kept }
answered_by grants number message = record grants { kept = map (marked number) grants.kept }

abbrev pub answered_first : Grants → Option ℕ → Up → Grants
answered_first grants None message = grants
answered_first grants (Some number) message = answered_by grants number message

abbrev pub grants_with : ℕ → ℕ → Grants → Up → Grants
grants_with grace now grants message =
    answered_first grants (first_waiting grace now grants grants.kept message) message

abbrev pub twice_of : Bool → Bool → Verdict
twice_of false waits = NotJudged
twice_of true waits = broken_if (not waits)

-- where a log may begin in the middle, not in its first frames: the grant may have come before
abbrev pub is_first : ℕ → ℕ → Option ℕ → Bool
is_first grace now None = false
is_first grace now (Some begun) = nat_le now (begun + grace)

-- nor where one of the last frames isn't kept any more
abbrev pub is_lost : ℕ → ℕ → Option ℕ → Bool
is_lost grace now None = false
is_lost grace now (Some at) = nat_le now (at + grace)

abbrev pub twice : Settings → Grants → Option ℕ → ℕ → Up → Verdict
twice settings grants begun now message =
    judged_if (not (is_first settings.grace now begun) && not (is_lost settings.grace now grants.lost))
    (twice_of (list_any (λ granted. may_answer settings.grace now granted message) grants.kept)
    (list_any (λ granted. waits_for settings.grace now grants granted message) grants.kept))

-- ---- `acknowledge`: it acknowledges an Assign_Alloc-ID though none was sent to it since it was assigned, or its copy
-- is of one that was not

-- whether one was sent to this ONU-ID since it was assigned, and whether one of this Alloc-ID
pub record Sent : Type 0 where
  pub any : ℕ → Sure
  pub alloc : ℕ → ℕ → Sure

abbrev pub sent_whole : Sent
sent_whole = record { any = λ onu. No; alloc = λ onu alloc. No }

abbrev pub sent_midway : Sent
sent_midway = record { any = λ onu. Unsure; alloc = λ onu alloc. Unsure }

-- where it is lost nothing was sent, and where it may be it isn't known
abbrev pub unless_lost : Sure → Sure → Sure
unless_lost Yes sent = No
unless_lost No sent = sent
unless_lost Unsure sent = Unsure

-- who holds an ONU-ID already may still acknowledge what it was sent
abbrev pub lost_again : Number → Serial → Sure
lost_again Unheard serial = Unsure
lost_again Nobodys serial = Yes
lost_again (Of holder delay answers) serial = if same_serial serial holder then No else Yes

abbrev pub is_unheard : Number → Bool
is_unheard Unheard = true
is_unheard Nobodys = false
is_unheard (Of holder delay answers) = false

-- an ONU-ID is assigned, or is sent an Assign_Alloc-ID: nothing is kept of one of which nobody knows who holds it
abbrev pub sent_after : Known → Sent → Down → Sent
sent_after known sent (AssignOnu onu serial) =
    record {
      any = λ other.
          if other == onu then unless_lost (lost_again (known.numbers onu) serial) (sent.any other) else sent.any other;
      alloc = λ other alloc.
          if other == onu
          then unless_lost (lost_again (known.numbers onu) serial) (sent.alloc other alloc)
          else sent.alloc other alloc;
    }
sent_after known sent (AssignAlloc onu alloc keep) =
    if is_unheard (known.numbers onu) then sent
    else record {
      any = λ other. if other == onu then Yes else sent.any other;
      alloc = λ other its. if other == onu && its == alloc then Yes else sent.alloc other its;
    }
sent_after known sent _ = sent

abbrev pub is_zeros : List ℕ → Bool
is_zeros octets = list_all (λ octet. octet == 0) octets

-- the Alloc-ID in the code that is copied, whose octets from 1 or from 3 on are there
abbrev pub alloc_at : List ℕ → ℕ → ℕ
alloc_at copy place = slice_index copy place * 16 + slice_index copy (suc place) / 16

abbrev pub broken_unsent : Sure → Verdict
broken_unsent Yes = Kept
broken_unsent No = Broken
broken_unsent Unsure = NotJudged

abbrev pub either_sent : Sure → Sure → Sure
either_sent Yes other = Yes
either_sent No other = other
either_sent Unsure Yes = Yes
either_sent Unsure No = Unsure
either_sent Unsure Unsure = Unsure

-- of a copy that isn't one of such a message there was none
abbrev pub if_copy : Bool → Sure → Sure
if_copy true sent = sent
if_copy false sent = No

abbrev pub copied_of : Sent → ℕ → List ℕ → Sure
copied_of sent onu copy =
    if is_zeros copy then sent.any onu
    else either_sent
    (if_copy (slice_index copy 0 == onu && slice_index copy 1 == 10) (sent.alloc onu (alloc_at copy 2)))
    (if_copy (slice_index copy 2 == 1 || slice_index copy 2 == 255) (sent.alloc onu (alloc_at copy 0)))

-- of an ONU-ID that nobody holds `number` is told
abbrev pub is_held : Number → Bool
is_held Unheard = false
is_held Nobodys = false
is_held (Of holder delay answers) = true

abbrev pub acknowledge : Settings → Known → Tallies → Notices → Sent → ℕ → Up → Verdict
acknowledge settings known tallies notices sent now (Acknowledge onu id copy) =
    judged_if (id == 10 && is_held (known.numbers onu))
    (after_grace settings tallies now (notices.onu onu) (broken_unsent (copied_of sent onu copy)))
acknowledge settings known tallies notices sent now _ = NotJudged

-- ---- `unacknowledged`: of the last Assign_Alloc-ID that was sent to it, three times behind its third Ranging_Time, it
-- has said No_message three times since

pub data Owing : Type 0 where
  -- it owes no acknowledgement, or it isn't known
  OwesNone : Owing
  -- of this message, so often sent, the last time in this frame, and behind the grace it said No_message so often
  Owes : (message : Down) (times : ℕ) (last : ℕ) (silent : ℕ) → Owing
  -- it acknowledged it
  Acknowledged : (message : Down) → Owing

abbrev pub owes_first : Bool → ℕ → Down → Owing
owes_first true now message = Owes message 1 now 0
owes_first false now _ = OwesNone

abbrev pub owing_sent : Bool → Owing → ℕ → Down → Owing
owing_sent ranged OwesNone now message = owes_first ranged now message
owing_sent ranged (Owes last times at silent) now message =
    if same_message last message then Owes last (suc times) now silent else owes_first ranged now message
owing_sent ranged (Acknowledged last) now message =
    if same_message last message then Acknowledged last else owes_first ranged now message

abbrev pub unless_gone : Bool → Owing → Owing
unless_gone true owing = OwesNone
unless_gone false owing = owing

-- by what is known and was said before the message
abbrev pub owing_after : Known → Tallies → Notices → (ℕ → Owing) → ℕ → Down → ℕ → Owing
owing_after known tallies notices owing now (AssignOnu onu serial) other =
    unless_gone (is_unit_number onu && changes_hands known onu serial other) (owing other)
owing_after known tallies notices owing now (Deactivate onu) other =
    unless_gone (onu == broadcast_onu || other == onu) (owing other)
owing_after known tallies notices owing now (DisableSerial serial) other =
    unless_gone (is_of (known.numbers other) serial) (owing other)
owing_after known tallies notices owing now (AssignAlloc onu alloc keep) other =
    if other == onu
    then owing_sent (is_held (known.numbers onu) && nat_le (notices.unit onu + 3) (total (tallies (OfDelay onu))))
    (owing onu) now (AssignAlloc onu alloc keep)
    else owing other
owing_after known tallies notices owing now _ other = owing other

-- it had the time to acknowledge
abbrev pub is_due : ℕ → ℕ → Owing → Bool
is_due grace now OwesNone = false
is_due grace now (Owes _ times last silent) = nat_le 3 times && nat_lt (last + grace) now
is_due grace now (Acknowledged _) = false

abbrev pub silent_once : Owing → Owing
silent_once OwesNone = OwesNone
silent_once (Owes message times last silent) = Owes message times last (suc silent)
silent_once (Acknowledged message) = Acknowledged message

abbrev pub acknowledged_by : Owing → Owing
acknowledged_by OwesNone = OwesNone
acknowledged_by (Owes message times last silent) = Acknowledged message
acknowledged_by (Acknowledged message) = Acknowledged message

abbrev pub owing_with : ℕ → (ℕ → Owing) → ℕ → Up → ℕ → Owing
owing_with grace owing now (up.NoMessage onu) other =
    if other == onu && is_due grace now (owing other) then silent_once (owing other) else owing other
owing_with grace owing now (Acknowledge onu id copy) other =
    if other == onu && id == 10 then acknowledged_by (owing other) else owing other
owing_with grace owing now _ other = owing other

-- told with the third one
abbrev pub silent_of : Owing → Verdict
silent_of OwesNone = NotJudged
silent_of (Owes _ times last silent) = if silent == 2 then Broken else NotJudged
silent_of (Acknowledged _) = NotJudged

abbrev pub kept_of : Owing → Verdict
kept_of OwesNone = NotJudged
kept_of (Owes _ times last silent) = Kept
kept_of (Acknowledged _) = NotJudged

abbrev pub unacknowledged : Settings → (ℕ → Owing) → ℕ → Up → Verdict
unacknowledged settings owing now (up.NoMessage onu) =
    judged_if (is_due settings.grace now (owing onu)) (silent_of (owing onu))
unacknowledged settings owing now (Acknowledge onu id copy) = judged_if (id == 10) (kept_of (owing onu))
unacknowledged settings owing now _ = NotJudged

-- ---- `drift`: its delay and its equalization delay are farther from the equalized one than they may be

abbrev pub drifts : Settings → ℕ → Fact ℕ → Verdict
drifts settings delay Unknown = NotJudged
drifts settings delay Nothing = NotJudged
drifts settings delay (Is eqd) = broken_if (nat_lt settings.drift (distance (delay + eqd) settings.teqd))

-- of a unit that speaks for itself
abbrev pub if_own : Verdict → Verdict → Verdict
if_own Kept verdict = verdict
if_own Broken verdict = NotJudged
if_own NotJudged verdict = NotJudged

abbrev pub drift_of : Settings → ℕ → Number → Up → Verdict
drift_of settings delay Unheard message = NotJudged
drift_of settings delay Nobodys message = NotJudged
drift_of settings delay (Of holder eqd answers) message = if_own (speaks_as message holder) (drifts settings delay eqd)

abbrev pub drift : Settings → Known → Tallies → Notices → ℕ → Up → Option ℕ → Verdict
drift settings known tallies notices now message None = NotJudged
drift settings known tallies notices now message (Some delay) =
    judged_if (not (octet1_of message == broadcast_onu))
    (judged_if
    (is_settled settings.grace now (notices.delay (octet1_of message)) (tallies (OfDelay (octet1_of message))))
    (drift_of settings delay (known.numbers (octet1_of message)) message))
