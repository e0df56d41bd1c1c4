-- Of no run the terminal is told of: what is kept of its log is what the laws of the rules speak of.
use Rattle.std.proofs.Common.{◌≡◌, ℕ, ◌+◌, Bool, true, false, sym, arith, cond, List, [], ◌∷◌, ◌++◌, map, refl, ap, subst, ◌∙◌}
use Rattle.gp_ploam.specs.Mask.{mask_value}
use Rattle.gp_ranging.specs.declared.grant.Grant.{Grant}
use Rattle.gp_machine.specs.declared.entry.Entry.{Entry}
use Rattle.gp_machine.specs.OneStep.{HearsOneThing}
use Rattle.gp_machine.specs.State.{opening_of}
use Rattle.gp_machine.proofs.SoundFrames.{sound_opening}
use Rattle.gp_observer.specs.Observer.{nothing_observed}
use Rattle.gp_observer.specs.Heard.{Heard, HeardDown, HeardUp, HeardGrant, is_terminals}
use Rattle.gp_observer.specs.Fibre.{RunSays}
use Rattle.hear_rules.specs.declared.rule.Rule.{Rule}
use Rattle.hear_rules.specs.declared.rule.Rule.TheVariants as rule
use Rattle.hear_rules.specs.declared.rule.Verdict.{Verdict}
use Rattle.hear_rules.specs.declared.rule.Verdict.TheVariants.{Kept, Broken, NotJudged}
use Rattle.hear_rules.specs.Clock.{frame_of, in_frame, TimedSays}
use Rattle.std.specs.Prelude.{None, Some}
use Rattle.std.proofs.lemmas.Bool.{false≢true, le-ltb}
use Rattle.gp_ploam.specs.declared.message.Down.{Down}
use Rattle.gp_observer.specs.Watch.{same_message}
use Rattle.hear_rules.specs.Facts.{Sure, Yes, No, Unsure}
use Rattle.hear_rules.specs.Copies.{Subject, OfNothing, OfHolder, OfDelay, OfAlloc, OfSerial, OfAllOnus, OfAllSerials, subject_of, same_subject, ends, Sending, Cut, Silent, Once, Twice, Said, Sendings, is_late, sending_after, is_another, ended_where, ended_by, sendings_put, sendings_heard, is_overdue, overdue, copies}
use Rattle.hear_rules.specs.Known.{known_whole}
use Rattle.hear_rules.specs.Notes.{Notes, notes_whole, notes_midway, judged_subjects, notes_after}
use Rattle.hear_rules.specs.Rules.{Settings, judge_known}
use Rattle.hear_rules.specs.Sending.{NoneCutShort}
use Rattle.hear_rules.specs.Audit.{worst, judge_copies, judge_granted, judge, other_rules, is_broken, cut_of, late_of, broken_by, Last, told_before, news_of, last_after, terminal_tells, terminal_from, TerminalIsNotBlamed, TerminalIsNotBlamedAnywhere}
use Rattle.hear_rules.proofs.Verdicts.{NotBroken, judged_not}
use Rattle.hear_rules.proofs.Following.{NoneBroken}
use Rattle.hear_rules.proofs.FollowingRuns.{run_goes, opening_follows}
use Rattle.hear_rules.proofs.Anywhere.{none_anywhere}
use Rattle.hear_rules.proofs.Repeating.{skip}
use Rattle.hear_rules.proofs.SendingCopies.{sends_copies, sends_copies_anywhere}

-- ---- what is said, without its frames

abbrev said_of : List (ℕ × Heard) → List Heard
said_of timed = map (λ it. it.1) timed

said_parts : (xs ys : List (ℕ × Heard)) → said_of (xs ++ ys) ≡ said_of xs ++ said_of ys
said_parts [] ys = refl
said_parts ((t, x) ∷ xs) ys = ap (λ (zs : List Heard). x ∷ zs) (said_parts xs ys)

said_in_frame : (now : ℕ) (xs : List Heard) → said_of (in_frame now xs) ≡ xs
said_in_frame now [] = refl
said_in_frame now (x ∷ xs) = ap (λ (zs : List Heard). x ∷ zs) (said_in_frame now xs)

run_says : (mask now : ℕ) (es : List Entry) (timed : List (ℕ × Heard)) → TimedSays mask now es timed → RunSays mask es (said_of timed)
run_says mask now [] timed says = ap said_of says
run_says mask now (e ∷ es) timed says = (
  says.0,
  said_of says.1,
  says.2,
  run_says mask (frame_of now e.event) es says.1 says.3,
  ap said_of says.4 ∙ said_parts (in_frame (frame_of now e.event) says.0) says.1 ∙ ap (λ (zs : List Heard). zs ++ said_of says.1) (said_in_frame (frame_of now e.event) says.0),
)

-- ---- what isn't broken isn't told

not_so : (v : Verdict) → NotBroken v → is_broken v ≡ false
not_so Kept h = refl
not_so Broken h = absurd h
not_so NotJudged h = refl

never_so : (v : Verdict) → (v ≡ Broken → ⊥) → is_broken v ≡ false
never_so Kept h = refl
never_so Broken h = absurd (h refl)
never_so NotJudged h = refl

cuts_none : (notes : Notes) (now : ℕ) (x : Heard) → ((v : Subject) → copies notes.sendings now x v ≡ Broken → ⊥) → (vs : List Subject) → cut_of notes now x vs ≡ []
cuts_none notes now x none [] = refl
cuts_none notes now x none (v ∷ vs) = skip (is_broken (copies notes.sendings now x v)) _ _ (never_so (copies notes.sendings now x v) (none v)) ∙ cuts_none notes now x none vs

module _ (settings : Settings) (notes : Notes) (now : ℕ) where
  -- of copies this is what was told of each subject
  copies_not : (x : Heard) → ((v : Subject) → copies notes.sendings now x v ≡ Broken → ⊥) → (vs : List Subject) → NotBroken (judge_copies notes now x vs)
  copies_not x none [] = tt
  copies_not x none (v ∷ vs) = by_verdict (copies notes.sendings now x v) (judge_copies notes now x vs) (none v) (copies_not x none vs)
    where
      by_verdict : (v w : Verdict) → (v ≡ Broken → ⊥) → NotBroken w → NotBroken (worst v w)
      by_verdict Broken w h g = h refl
      by_verdict Kept Broken h g = g
      by_verdict Kept Kept h g = tt
      by_verdict Kept NotJudged h g = tt
      by_verdict NotJudged w h g = g

  granted_not : (x : Heard) → ((r : Rule) → NotBroken (judge_known settings notes.known x r)) → (r : Rule) → NotBroken (judge_granted settings notes x r)
  granted_not x none rule.Grant = judged_not notes.down _ (none rule.Grant)
  granted_not x none r = none r

  abbrev NoneTold : Heard → Type 0
  NoneTold x = (r : Rule) → NotBroken (judge settings notes now x r)

  down_not : (m : _) → ((r : Rule) → NotBroken (judge_known settings notes.known (HeardDown m) r)) → ((v : Subject) → copies notes.sendings now (HeardDown m) v ≡ Broken → ⊥) → NoneTold (HeardDown m)
  down_not m none uncut rule.Copies = copies_not (HeardDown m) uncut (judged_subjects notes.sendings notes.waiting now (HeardDown m))
  down_not m none uncut r = none r

  grant_not : (g : Grant) → ((r : Rule) → NotBroken (judge_known settings notes.known (HeardGrant g) r)) → ((v : Subject) → copies notes.sendings now (HeardGrant g) v ≡ Broken → ⊥) → NoneTold (HeardGrant g)
  grant_not g none uncut rule.Copies = copies_not (HeardGrant g) uncut (judged_subjects notes.sendings notes.waiting now (HeardGrant g))
  grant_not g none uncut r = granted_not (HeardGrant g) none r

  broken_none : (x : Heard) → NoneTold x → (rs : List Rule) → broken_by settings notes now x rs ≡ []
  broken_none x none [] = refl
  broken_none x none (r ∷ rs) = skip (is_broken (judge settings notes now x r)) _ _ (not_so (judge settings notes now x r) (none r)) ∙ broken_none x none rs

  news_none : (last : Last) (x : Heard) → NoneTold x → news_of (told_before last x) (broken_by settings notes now x other_rules) ≡ []
  news_none last x none = ap (λ (rs : List Rule). news_of (told_before last x) rs) (broken_none x none other_rules)

  terminals_none : (last : Last) (x : Heard) → ((r : Rule) → NotBroken (judge_known settings notes.known x r)) → ((v : Subject) → copies notes.sendings now x v ≡ Broken → ⊥)
      → cond (is_terminals x) (news_of (told_before last x) (broken_by settings notes now x other_rules)) [] ≡ []
  terminals_none last (HeardDown m) none uncut = news_none last (HeardDown m) (down_not m none uncut)
  terminals_none last (HeardUp m delay) none uncut = refl
  terminals_none last (HeardGrant g) none uncut = news_none last (HeardGrant g) (grant_not g none uncut)

  tells_none : (last : Last) (x : Heard) → ((r : Rule) → NotBroken (judge_known settings notes.known x r)) → ((v : Subject) → copies notes.sendings now x v ≡ Broken → ⊥) → terminal_tells settings notes last now x ≡ []
  tells_none last x none uncut =
      ap (λ (rs : List Rule). rs ++ cond (is_terminals x) (news_of (told_before last x) (broken_by settings notes now x other_rules)) []) (cuts_none notes now x uncut (judged_subjects notes.sendings notes.waiting now x))
      ∙ terminals_none last x none uncut

-- ---- a log

-- none is overdue
abbrev Timely : Sendings → ℕ → Type 0
Timely s now = (v : Subject) → same_subject v OfNothing ≡ false → is_overdue (s v) now ≡ false

timely_now : (s : Sendings) (now : ℕ) (x : Heard) → ((v : Subject) → copies s now x v ≡ Broken → ⊥) → Timely s now
timely_now s now x none v other = by_subject v other (none v)
  where
    by_test : (b : Bool) (w : Verdict) → (cond b Broken w ≡ Broken → ⊥) → b ≡ false
    by_test true w h = absurd (h refl)
    by_test false w h = refl

    by_subject : (v : Subject) → same_subject v OfNothing ≡ false → (copies s now x v ≡ Broken → ⊥) → is_overdue (s v) now ≡ false
    by_subject OfNothing other h = absurd (false≢true (sym other))
    by_subject (OfHolder n) other h = by_test (is_overdue (s (OfHolder n)) now) _ h
    by_subject (OfDelay n) other h = by_test (is_overdue (s (OfDelay n)) now) _ h
    by_subject (OfAlloc n a) other h = by_test (is_overdue (s (OfAlloc n a)) now) _ h
    by_subject (OfSerial t) other h = by_test (is_overdue (s (OfSerial t)) now) _ h
    by_subject OfAllOnus other h = by_test (is_overdue (s OfAllOnus) now) _ h
    by_subject OfAllSerials other h = by_test (is_overdue (s OfAllSerials) now) _ h

module _ (now : ℕ) where
  not_late : is_late now now ≡ false
  not_late = le-ltb (now + 800) now (omega arith)

  -- what was sent just now isn't
  sent_timely : (x : Sending) (m : Down) → is_overdue (sending_after x now m) now ≡ false
  sent_timely Cut m = refl
  sent_timely Silent m = not_late
  sent_timely (Once l at) m = by_same (same_message l m) (is_late at now)
    where
      by_same : (b c : Bool) → is_overdue (cond b (cond c (Said l) (Twice l now)) (Once m now)) now ≡ false
      by_same true true = refl
      by_same true false = not_late
      by_same false c = not_late
  sent_timely (Twice l at) m = by_same (same_message l m)
    where
      by_same : (b : Bool) → is_overdue (cond b (Said l) (Once m now)) now ≡ false
      by_same true = refl
      by_same false = not_late
  sent_timely (Said l) m = by_same (same_message l m)
    where
      by_same : (b : Bool) → is_overdue (cond b (Said l) (Once m now)) now ≡ false
      by_same true = refl
      by_same false = not_late

  ended_timely : (y : Sure) (b : Bool) (x : Sending) → is_overdue x now ≡ false → is_overdue (cond b (ended_where y x) x) now ≡ false
  ended_timely Yes true x h = refl
  ended_timely No true x h = h
  ended_timely Unsure true x h = refl
  ended_timely y false x h = h

  put_timely : (s : Sendings) (y : Sure) (u : Subject) (x : Sending) → is_overdue x now ≡ false → Timely s now → Timely (sendings_put s y u x) now
  put_timely s y u x own h v other = by_subject u
    where
      one : (w : Subject) (b : Bool) → is_overdue (cond b x (ended_by y w v (s v))) now ≡ false
      one w true = own
      one w false = ended_timely y (ends w v) (s v) (h v other)

      by_subject : (w : Subject) → is_overdue (sendings_put s y w x v) now ≡ false
      by_subject OfNothing = h v other
      by_subject (OfHolder n) = one (OfHolder n) (same_subject v (OfHolder n))
      by_subject (OfDelay n) = one (OfDelay n) (same_subject v (OfDelay n))
      by_subject (OfAlloc n a) = one (OfAlloc n a) (same_subject v (OfAlloc n a))
      by_subject (OfSerial t) = one (OfSerial t) (same_subject v (OfSerial t))
      by_subject OfAllOnus = one OfAllOnus (same_subject v OfAllOnus)
      by_subject OfAllSerials = one OfAllSerials (same_subject v OfAllSerials)

  heard_timely : (s : Sendings) (x : Heard) → Timely s now → Timely (sendings_heard s now x) now
  heard_timely s (HeardDown None) h = h
  heard_timely s (HeardDown (Some m)) h = put_timely s (is_another (s (subject_of m)) m) (subject_of m) (sending_after (s (subject_of m)) now m) (sent_timely (s (subject_of m)) m) h
  heard_timely s (HeardUp m delay) h = h
  heard_timely s (HeardGrant g) h = h

late_none : (notes : Notes) (now : ℕ) → Timely notes.sendings now → (vs : List Subject) → late_of notes now vs ≡ []
late_none notes now timely [] = refl
late_none notes now timely (v ∷ vs) = skip (overdue notes.sendings now v) _ _ (by_subject v) ∙ late_none notes now timely vs
  where
    by_subject : (v : Subject) → overdue notes.sendings now v ≡ false
    by_subject OfNothing = refl
    by_subject (OfHolder n) = timely (OfHolder n) refl
    by_subject (OfDelay n) = timely (OfDelay n) refl
    by_subject (OfAlloc n a) = timely (OfAlloc n a) refl
    by_subject (OfSerial t) = timely (OfSerial t) refl
    by_subject OfAllOnus = timely OfAllOnus refl
    by_subject OfAllSerials = timely OfAllSerials refl

not_blamed : (settings : Settings) (notes : Notes) (last : Last) (before : ℕ) (timed : List (ℕ × Heard)) → NoneBroken settings notes.known (said_of timed) → NoneCutShort notes.sendings timed → Timely notes.sendings before
    → terminal_from settings notes last before timed ≡ []
not_blamed settings notes last before [] none uncut timely = late_none notes before timely notes.waiting
not_blamed settings notes last before ((now, x) ∷ timed) none uncut timely =
    ap (λ (rs : List Rule). rs ++ terminal_from settings (notes_after settings notes now x) (last_after last x (broken_by settings notes now x other_rules)) now timed) (tells_none settings notes now last x none.0 uncut.0)
    ∙ not_blamed settings (notes_after settings notes now x) (last_after last x (broken_by settings notes now x other_rules)) now timed none.1 uncut.1
    (heard_timely now notes.sendings x (timely_now notes.sendings now x uncut.0))

pub terminal_is_not_blamed : HearsOneThing → TerminalIsNotBlamed
terminal_is_not_blamed one c q es now timed settings last run says teqd =
    not_blamed settings notes_whole last 0 timed
    (run_goes one settings (opening_of c) q es (said_of timed) known_whole nothing_observed [] (sound_opening c) teqd (opening_follows settings c) run (run_says (mask_value c.mask) now es timed says)).none
    (sends_copies c q es now timed run says) (λ v other. refl)

pub terminal_is_not_blamed_anywhere : HearsOneThing → TerminalIsNotBlamedAnywhere
terminal_is_not_blamed_anywhere one c q es now begun before later settings last run says teqd =
    not_blamed settings (notes_midway begun) last 0 later
    (none_anywhere one settings c q es (said_of before) (said_of later) run
    (subst (λ (xs : List Heard). RunSays (mask_value c.mask) es xs) (said_parts before later) (run_says (mask_value c.mask) now es (before ++ later) says)) teqd)
    (sends_copies_anywhere c q es now before later run says) (λ v other. refl)
