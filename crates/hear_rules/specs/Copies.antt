-- `copies`: each of these messages is sent three times (G.984.3, clause 9), its copies in any order among those of
-- others. That none comes more than 800 frames behind the one before it is this profile's own rule.
use Rattle.std.specs.Prelude.{ℕ, ◌+◌, ◌==◌, ◌&&◌, nat_lt, Bool, true, false, not, if◌then◌else◌, None, Some}
use Rattle.gp_ploam.specs.declared.message.Serial.{Serial}
use Rattle.gp_ploam.specs.declared.message.Down.{Down}
use Rattle.gp_ploam.specs.declared.message.Down.TheVariants.{UpstreamOverhead, AssignOnu, RangingTime, Deactivate, DisableSerial, EnableSerial, EnableAll, AssignAlloc, NoMessage, Popup, Other}
use Rattle.gp_ploam.specs.OnuIds.{broadcast_onu}
use Rattle.gp_ploam.specs.Serials.{same_serial}
use Rattle.gp_observer.specs.Heard.{Heard, HeardDown, HeardUp, HeardGrant}
use Rattle.gp_observer.specs.Watch.{same_message}
use Rattle.hear_rules.specs.declared.rule.Verdict.{Verdict}
use Rattle.hear_rules.specs.declared.rule.Verdict.TheVariants.{Kept, Broken, NotJudged}
use Rattle.hear_rules.specs.Facts.{Sure, Yes, No, Unsure, sure}

-- ---- what is kept

-- what a message is about: another message about one thing is told in the place of the one before
pub data Subject : Type 0 where
  -- nothing that has to be said three times
  OfNothing : Subject
  -- who holds an ONU-ID
  OfHolder : (onu : ℕ) → Subject
  -- the equalization delay of an ONU-ID
  OfDelay : (onu : ℕ) → Subject
  -- whether an ONU-ID has an Alloc-ID
  OfAlloc : (onu : ℕ) (alloc : ℕ) → Subject
  -- whether a serial number is disabled
  OfSerial : (serial : Serial) → Subject
  -- all ONU-IDs, or all serial numbers
  OfAllOnus : Subject
  OfAllSerials : Subject

abbrev pub subject_of : Down → Subject
subject_of (AssignOnu onu serial) = OfHolder onu
subject_of (RangingTime onu eqd) = OfDelay onu
subject_of (Deactivate onu) = if onu == broadcast_onu then OfAllOnus else OfHolder onu
subject_of (DisableSerial serial) = OfSerial serial
subject_of (EnableSerial serial) = OfSerial serial
subject_of EnableAll = OfAllSerials
subject_of (AssignAlloc onu alloc keep) = OfAlloc onu alloc
subject_of (UpstreamOverhead burst) = OfNothing
subject_of NoMessage = OfNothing
subject_of (Popup onu) = OfNothing
subject_of (Other id octet1 body) = OfNothing

abbrev pub same_subject : Subject → Subject → Bool
same_subject OfNothing OfNothing = true
same_subject (OfHolder onu) (OfHolder other) = onu == other
same_subject (OfDelay onu) (OfDelay other) = onu == other
same_subject (OfAlloc onu alloc) (OfAlloc other its) = onu == other && alloc == its
same_subject (OfSerial serial) (OfSerial other) = same_serial serial other
same_subject OfAllOnus OfAllOnus = true
same_subject OfAllSerials OfAllSerials = true
same_subject _ _ = false

-- who gets or loses an ONU-ID ends what was said to it, if it wasn't said before
abbrev pub ends : Subject → Subject → Bool
ends (OfHolder onu) (OfDelay other) = onu == other
ends (OfHolder onu) (OfAlloc other alloc) = onu == other
ends _ _ = false

-- what was sent last about a subject, and in which frame its last copy came
pub data Sending : Type 0 where
  -- it isn't known: the log begins in the middle
  Cut : Sending
  -- nothing, or it was ended
  Silent : Sending
  Once : (message : Down) (at : ℕ) → Sending
  Twice : (message : Down) (at : ℕ) → Sending
  -- three times or more, or it isn't known how often, or a copy came too late
  Said : (message : Down) → Sending

abbrev pub Sendings : Type 0
Sendings = Subject → Sending

-- ---- what changes it

-- for how many frames the next copy may come
abbrev pub copies_within : ℕ
copies_within = 800

abbrev pub is_late : ℕ → ℕ → Bool
is_late at now = nat_lt (at + copies_within) now

abbrev pub sending_after : Sending → ℕ → Down → Sending
sending_after Cut now message = Said message
sending_after Silent now message = Once message now
sending_after (Once last at) now message =
    if same_message last message
    then (if is_late at now then Said last else Twice last now)
    else Once message now
sending_after (Twice last at) now message = if same_message last message then Said last else Once message now
sending_after (Said last) now message = if same_message last message then Said last else Once message now

-- the message isn't a copy of what was sent last: where that isn't known it may be one
abbrev pub is_another : Sending → Down → Sure
is_another Cut _ = Unsure
is_another Silent _ = Yes
is_another (Once last at) message = sure (not (same_message last message))
is_another (Twice last at) message = sure (not (same_message last message))
is_another (Said last) message = sure (not (same_message last message))

-- what another message ends; where it may be a copy it isn't known any more
abbrev pub ended_where : Sure → Sending → Sending
ended_where Yes sending = Silent
ended_where No sending = sending
ended_where Unsure sending = Cut

abbrev pub ended_by : Sure → Subject → Subject → Sending → Sending
ended_by another subject other sending = if ends subject other then ended_where another sending else sending

abbrev pub sendings_put : Sendings → Sure → Subject → Sending → Sendings
sendings_put sendings another OfNothing sending = sendings
sendings_put sendings another subject sending =
    λ other. if same_subject other subject then sending else ended_by another subject other (sendings other)

-- a message is sent
abbrev pub sendings_after : Sendings → ℕ → Down → Sendings
sendings_after sendings now message =
    sendings_put sendings (is_another (sendings (subject_of message)) message) (subject_of message)
    (sending_after (sendings (subject_of message)) now message)

-- something is heard in this frame
abbrev pub sendings_heard : Sendings → ℕ → Heard → Sendings
sendings_heard sendings now (HeardDown None) = sendings
sendings_heard sendings now (HeardDown (Some message)) = sendings_after sendings now message
sendings_heard sendings now (HeardUp message delay) = sendings
sendings_heard sendings now (HeardGrant grant) = sendings

-- ---- the rule, of a subject: kept with the third copy, broken once another message comes before, or it is overdue

-- a copy is still to come
abbrev pub is_open : Sending → Bool
is_open Cut = false
is_open Silent = false
is_open (Once _ at) = true
is_open (Twice _ at) = true
is_open (Said _) = false

-- it has come too late, or not come yet
abbrev pub is_overdue : Sending → ℕ → Bool
is_overdue Cut now = false
is_overdue Silent now = false
is_overdue (Once last at) now = is_late at now
is_overdue (Twice last at) now = is_late at now
is_overdue (Said last) now = false

abbrev pub overdue : Sendings → ℕ → Subject → Bool
overdue sendings now OfNothing = false
overdue sendings now subject = is_overdue (sendings subject) now

abbrev pub cut_short : Sending → Down → Verdict
cut_short Cut _ = NotJudged
cut_short Silent _ = NotJudged
cut_short (Once last at) message = if same_message last message then NotJudged else Broken
cut_short (Twice last at) message = if same_message last message then Kept else Broken
cut_short (Said last) _ = NotJudged

abbrev pub ended : Sure → Sending → Verdict
ended Yes (Once last at) = Broken
ended Yes (Twice last at) = Broken
ended _ _ = NotJudged

abbrev pub copies_with : Sendings → Down → Subject → Verdict
copies_with sendings message subject =
    if same_subject subject (subject_of message)
    then cut_short (sendings subject) message
    else (if ends (subject_of message) subject
    then ended (is_another (sendings (subject_of message)) message) (sendings subject)
    else NotJudged)

abbrev pub copies_heard : Sendings → Heard → Subject → Verdict
copies_heard sendings (HeardDown None) subject = NotJudged
copies_heard sendings (HeardDown (Some message)) subject = copies_with sendings message subject
copies_heard sendings (HeardUp message delay) subject = NotJudged
copies_heard sendings (HeardGrant grant) subject = NotJudged

-- what is overdue is broken in each frame, until the next message about it: `Notes.antt` says when it is told, once
abbrev pub copies : Sendings → ℕ → Heard → Subject → Verdict
copies sendings now heard OfNothing = NotJudged
copies sendings now heard subject =
    if is_overdue (sendings subject) now then Broken else copies_heard sendings heard subject
