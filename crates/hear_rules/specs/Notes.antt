-- What is kept of a port's log, and what is heard changes of it (this profile's own rule).
use Rattle.std.specs.Prelude.{ℕ, ◌==◌, nat_le, Bool, true, false, not, ◌&&◌, ◌||◌, if◌then◌else◌, List, [], ◌∷◌, ◌++◌, map, Option, None, Some}
use Rattle.std.specs.List.{list_any}
use Rattle.gp_observer.specs.Heard.{Heard, HeardDown, HeardUp, HeardGrant}
use Rattle.hear_rules.specs.Known.{Known, known_whole, known_midway, known_after}
use Rattle.hear_rules.specs.Rules.{Settings}
use Rattle.hear_rules.specs.Copies.{Subject, OfNothing, OfHolder, OfDelay, OfAlloc, subject_of, same_subject, Cut, Silent, Sendings, sendings_heard, is_open, overdue}
use Rattle.hear_rules.specs.Units.{Tallies, Untold, tallies_after, Notices, notices_whole, notices_midway, notices_after, Sent, sent_whole, sent_midway, sent_after, Owing, OwesNone, owing_after, owing_with, Grants, no_grants, is_first, grants_with, grants_after}

pub record Notes : Type 0 where
  pub known : Known
  -- what was sent last about each subject, and those that wait for a copy: who is overdue and doesn't wait was told
  pub sendings : Sendings
  pub waiting : List Subject
  -- how often it was, by which messages units go, and what they owe
  pub tallies : Tallies
  pub notices : Notices
  pub sent : Sent
  pub owing : ℕ → Owing
  -- the last grants
  pub grants : Grants
  -- whether the port has had a code down
  pub down : Bool
  -- where the log may begin in the middle, the frame of the port's first line
  pub begun : Option ℕ

-- from the first message on
abbrev pub notes_whole : Notes
notes_whole =
    record {
      known = known_whole;
      sendings = λ subject. Silent;
      waiting = [];
      tallies = λ subject. Untold;
      notices = notices_whole;
      sent = sent_whole;
      owing = λ onu. OwesNone;
      grants = no_grants;
      down = false;
      begun = None;
    }

-- from the middle on
abbrev pub notes_midway : ℕ → Notes
notes_midway begun =
    record {
      known = known_midway;
      sendings = λ subject. Cut;
      waiting = [];
      tallies = λ subject. Untold;
      notices = notices_midway;
      sent = sent_midway;
      owing = λ onu. OwesNone;
      grants = no_grants;
      down = false;
      begun = Some begun;
    }

-- ---- who waits for a copy: a queue, each subject in it once at most, of which the first alone is looked at

-- the first goes where no copy of it is to come any more, or one is overdue
abbrev pub leaves : Sendings → ℕ → Subject → Bool
leaves sendings now subject = not (is_open (sendings subject)) || overdue sendings now subject

abbrev pub still_waiting : Sendings → ℕ → List Subject → List Subject
still_waiting sendings now [] = []
still_waiting sendings now (first ∷ others) = if leaves sendings now first then others else first ∷ others

abbrev pub waits : List Subject → Subject → Bool
waits waiting subject = list_any (λ other. same_subject other subject) waiting

-- a message is sent: its subject goes to the end, where a copy of it is to come and it isn't there already
abbrev pub waiting_with : Sendings → List Subject → Subject → List Subject
waiting_with sendings waiting OfNothing = waiting
waiting_with sendings waiting subject =
    waiting ++ (if is_open (sendings subject) && not (waits waiting subject) then subject ∷ [] else [])

-- behind what is heard, of those that wait before it
abbrev pub waiting_after : Sendings → List Subject → Heard → List Subject
waiting_after sendings waiting (HeardDown None) = waiting
waiting_after sendings waiting (HeardDown (Some message)) = waiting_with sendings waiting (subject_of message)
waiting_after sendings waiting (HeardUp message delay) = waiting
waiting_after sendings waiting (HeardGrant grant) = waiting

-- ---- the subjects of which `copies` is judged: the first, where it is overdue; then that of the message, and those
-- that it may end, of those that wait behind the first

abbrev pub late_first : Sendings → ℕ → List Subject → List Subject
late_first sendings now [] = []
late_first sendings now (first ∷ others) = if overdue sendings now first then first ∷ [] else []

-- among these in ascending order
abbrev pub with_alloc : ℕ → List ℕ → List ℕ
with_alloc alloc [] = alloc ∷ []
with_alloc alloc (other ∷ others) =
    if nat_le alloc other then alloc ∷ other ∷ others else other ∷ with_alloc alloc others

-- the Alloc-IDs of an ONU-ID that wait
abbrev pub allocs_of : ℕ → List Subject → List ℕ
allocs_of onu [] = []
allocs_of onu (OfAlloc other alloc ∷ others) =
    if onu == other then with_alloc alloc (allocs_of onu others) else allocs_of onu others
allocs_of onu (_ ∷ others) = allocs_of onu others

abbrev pub if_waits : List Subject → Subject → List Subject
if_waits waiting subject = if waits waiting subject then subject ∷ [] else []

abbrev pub ended_of : List Subject → Subject → List Subject
ended_of waiting (OfHolder onu) =
    if_waits waiting (OfDelay onu) ++ map (λ alloc. OfAlloc onu alloc) (allocs_of onu waiting)
ended_of waiting _ = []

abbrev pub judged_with : List Subject → Heard → List Subject
judged_with waiting (HeardDown None) = []
judged_with waiting (HeardDown (Some message)) =
    if_waits waiting (subject_of message) ++ ended_of waiting (subject_of message)
judged_with waiting (HeardUp message delay) = []
judged_with waiting (HeardGrant grant) = []

abbrev pub judged_subjects : Sendings → List Subject → ℕ → Heard → List Subject
judged_subjects sendings waiting now heard =
    late_first sendings now waiting ++ judged_with (still_waiting sendings now waiting) heard

-- ---- what else is kept

abbrev pub tallies_heard : Tallies → ℕ → Heard → Tallies
tallies_heard tallies now (HeardDown None) = tallies
tallies_heard tallies now (HeardDown (Some message)) = tallies_after tallies now message
tallies_heard tallies now (HeardUp message delay) = tallies
tallies_heard tallies now (HeardGrant grant) = tallies

abbrev pub notices_heard : Notes → Heard → Notices
notices_heard notes (HeardDown None) = notes.notices
notices_heard notes (HeardDown (Some message)) = notices_after notes.known notes.tallies notes.notices message
notices_heard notes (HeardUp message delay) = notes.notices
notices_heard notes (HeardGrant grant) = notes.notices

abbrev pub sent_heard : Notes → Heard → Sent
sent_heard notes (HeardDown None) = notes.sent
sent_heard notes (HeardDown (Some message)) = sent_after notes.known notes.sent message
sent_heard notes (HeardUp message delay) = notes.sent
sent_heard notes (HeardGrant grant) = notes.sent

abbrev pub owing_heard : Settings → Notes → ℕ → Heard → ℕ → Owing
owing_heard settings notes now (HeardDown None) = notes.owing
owing_heard settings notes now (HeardDown (Some message)) =
    owing_after notes.known notes.tallies notes.notices notes.owing now message
owing_heard settings notes now (HeardUp None delay) = notes.owing
owing_heard settings notes now (HeardUp (Some message) delay) = owing_with settings.grace notes.owing now message
owing_heard settings notes now (HeardGrant grant) = notes.owing

-- where a log may begin in the middle, an answer in its first frames may be one to a grant before
abbrev pub grants_heard : Settings → Notes → ℕ → Heard → Grants
grants_heard settings notes now (HeardDown message) = notes.grants
grants_heard settings notes now (HeardUp None delay) = notes.grants
grants_heard settings notes now (HeardUp (Some message) delay) =
    if is_first settings.grace now notes.begun then notes.grants
    else grants_with settings.grace now notes.grants message
grants_heard settings notes now (HeardGrant grant) = grants_after now notes.grants grant

abbrev pub down_heard : Bool → Heard → Bool
down_heard down (HeardDown None) = down
down_heard down (HeardDown (Some _)) = true
down_heard down (HeardUp message delay) = down
down_heard down (HeardGrant grant) = down

-- ---- all of it, where something is heard in this frame

abbrev pub notes_after : Settings → Notes → ℕ → Heard → Notes
notes_after settings notes now heard =
    record {
      known = known_after notes.known heard;
      sendings = sendings_heard notes.sendings now heard;
      waiting =
          waiting_after (sendings_heard notes.sendings now heard)
          (still_waiting notes.sendings now notes.waiting) heard;
      tallies = tallies_heard notes.tallies now heard;
      notices = notices_heard notes heard;
      sent = sent_heard notes heard;
      owing = owing_heard settings notes now heard;
      grants = grants_heard settings notes now heard;
      down = down_heard notes.down heard;
      begun = notes.begun;
    }

abbrev pub notes_after_all : Settings → Notes → List (ℕ × Heard) → Notes
notes_after_all settings notes [] = notes
notes_after_all settings notes ((now, heard) ∷ others) =
    notes_after_all settings (notes_after settings notes now heard) others
