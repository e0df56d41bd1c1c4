-- What the auditor tells of a log: each rule, judged of each thing that is heard, and told once where copies break it
-- (this profile's own rule).
use Rattle.std.specs.Prelude.{◌≡◌, ℕ, ◌==◌, Bool, true, false, if◌then◌else◌, List, [], ◌∷◌, ◌++◌, Option, None, Some}
use Rattle.std.specs.List.{list_any}
use Rattle.gp_ploam.specs.declared.message.Down.{Down}
use Rattle.gp_ploam.specs.declared.message.Down.TheVariants.{UpstreamOverhead, AssignOnu, RangingTime, Deactivate, DisableSerial, EnableSerial, EnableAll, AssignAlloc, NoMessage, Popup, Other}
use Rattle.gp_ploam.specs.declared.message.Up.{Up}
use Rattle.gp_ploam.specs.Mask.{mask_value}
use Rattle.gp_machine.specs.declared.config.PortConfig.{PortConfig}
use Rattle.gp_machine.specs.declared.entry.Entry.{Entry}
use Rattle.gp_machine.specs.State.{PortState, opening_of}
use Rattle.gp_machine.specs.Run.{Run}
use Rattle.gp_observer.specs.Heard.{Heard, HeardDown, HeardUp, HeardGrant, is_terminals}
use Rattle.gp_observer.specs.Watch.{same_message}
use Rattle.hear_rules.specs.declared.rule.Rule.{Rule}
use Rattle.hear_rules.specs.declared.rule.Rule.TheVariants as rule
use Rattle.hear_rules.specs.declared.rule.Verdict.{Verdict}
use Rattle.hear_rules.specs.declared.rule.Verdict.TheVariants.{Kept, Broken, NotJudged}
use Rattle.hear_rules.specs.Rules.{Settings, directed, judged_if, judge_garbled, judge_known}
use Rattle.hear_rules.specs.Copies.{Subject, overdue, copies}
use Rattle.hear_rules.specs.Units.{disabled, anew, number, twice, acknowledge, unacknowledged, drift}
use Rattle.hear_rules.specs.Notes.{Notes, notes_whole, notes_midway, judged_subjects, notes_after}
use Rattle.hear_rules.specs.Clock.{TimedSays}

-- ---- each rule

-- of these subjects: broken where one is, else kept where one is
abbrev pub worst : Verdict → Verdict → Verdict
worst Broken other = Broken
worst Kept Broken = Broken
worst Kept Kept = Kept
worst Kept NotJudged = Kept
worst NotJudged other = other

abbrev pub judge_copies : Notes → ℕ → Heard → List Subject → Verdict
judge_copies notes now heard [] = NotJudged
judge_copies notes now heard (subject ∷ subjects) =
    worst (copies notes.sendings now heard subject) (judge_copies notes now heard subjects)

-- what a unit says
abbrev pub judge_answer : Settings → Notes → ℕ → Up → Option ℕ → Rule → Verdict
judge_answer settings notes now message delay rule.Garbled = Kept
judge_answer settings notes now message delay rule.Disabled =
    disabled settings notes.known notes.tallies notes.notices now message
judge_answer settings notes now message delay rule.Anew =
    anew settings notes.known notes.tallies notes.notices now message
judge_answer settings notes now message delay rule.Number =
    number settings notes.known notes.tallies notes.notices notes.down now message
judge_answer settings notes now message delay rule.Twice = twice settings notes.grants notes.begun now message
judge_answer settings notes now message delay rule.Acknowledge =
    acknowledge settings notes.known notes.tallies notes.notices notes.sent now message
judge_answer settings notes now message delay rule.Unacknowledged = unacknowledged settings notes.owing now message
judge_answer settings notes now message delay rule.Drift =
    drift settings notes.known notes.tallies notes.notices now message delay
judge_answer settings notes now message delay _ = NotJudged

-- of a port without a code down it isn't known that nobody holds an ONU-ID
abbrev pub judge_granted : Settings → Notes → Heard → Rule → Verdict
judge_granted settings notes heard rule.Grant = judged_if notes.down (judge_known settings notes.known heard rule.Grant)
judge_granted settings notes heard rule = judge_known settings notes.known heard rule

abbrev pub judge_heard : Settings → Notes → ℕ → Heard → Rule → Verdict
judge_heard settings notes now (HeardDown message) rule = judge_known settings notes.known (HeardDown message) rule
judge_heard settings notes now (HeardUp None delay) rule = judge_garbled rule
judge_heard settings notes now (HeardUp (Some message) delay) rule =
    judge_answer settings notes now message delay rule
judge_heard settings notes now (HeardGrant grant) rule = judge_granted settings notes (HeardGrant grant) rule

-- the rule, of what is heard in this frame, by what was heard before
abbrev pub judge : Settings → Notes → ℕ → Heard → Rule → Verdict
judge settings notes now heard rule.Copies =
    judge_copies notes now heard (judged_subjects notes.sendings notes.waiting now heard)
judge settings notes now heard rule = judge_heard settings notes now heard rule

-- ---- what is told

-- `copies` is told of each subject, and the others in this order
abbrev pub other_rules : List Rule
other_rules =
    rule.Garbled ∷ rule.Range ∷ rule.Overhead ∷ rule.Barred ∷ rule.Unasked ∷ rule.Taken ∷ rule.Renumbered
    ∷ rule.Nobody ∷ rule.Unranged ∷ rule.Delay ∷ rule.Early ∷ rule.Shared ∷ rule.NotHeld ∷ rule.Grant ∷ rule.Disabled
    ∷ rule.Anew ∷ rule.Number ∷ rule.Twice ∷ rule.Acknowledge ∷ rule.Unacknowledged ∷ rule.Drift ∷ []

abbrev pub is_broken : Verdict → Bool
is_broken Kept = false
is_broken Broken = true
is_broken NotJudged = false

abbrev pub cut_of : Notes → ℕ → Heard → List Subject → List Rule
cut_of notes now heard [] = []
cut_of notes now heard (subject ∷ subjects) =
    if is_broken (copies notes.sendings now heard subject)
    then rule.Copies ∷ cut_of notes now heard subjects
    else cut_of notes now heard subjects

-- those of these rules that are broken
abbrev pub broken_by : Settings → Notes → ℕ → Heard → List Rule → List Rule
broken_by settings notes now heard [] = []
broken_by settings notes now heard (rule ∷ rules) =
    if is_broken (judge settings notes now heard rule)
    then rule ∷ broken_by settings notes now heard rules
    else broken_by settings notes now heard rules

-- ---- what copies break is told once

-- the message that was sent last to each ONU-ID, and what it broke
abbrev pub Last : Type 0
Last = ℕ → Option (Down × List Rule)

abbrev pub no_last : Last
no_last = λ onu. None

-- the ONU-ID that a message is about
abbrev pub to_onu : Down → Option ℕ
to_onu (UpstreamOverhead burst) = None
to_onu (AssignOnu onu serial) = Some onu
to_onu (RangingTime onu eqd) = Some onu
to_onu (Deactivate onu) = Some onu
to_onu (DisableSerial serial) = None
to_onu (EnableSerial serial) = None
to_onu EnableAll = None
to_onu (AssignAlloc onu alloc keep) = Some onu
to_onu NoMessage = None
to_onu (Popup onu) = Some onu
to_onu (Other id octet1 body) = if list_any (λ other. other == id) directed then Some octet1 else None

-- they are the same, and one of those that are told once of a message and its copies
abbrev pub same_told_once : Rule → Rule → Bool
same_told_once rule.Range rule.Range = true
same_told_once rule.Nobody rule.Nobody = true
same_told_once rule.NotHeld rule.NotHeld = true
same_told_once rule.Early rule.Early = true
same_told_once rule.Delay rule.Delay = true
same_told_once _ _ = false

-- the rules that this message broke when it was the last one to its ONU-ID
abbrev pub broken_before : Option (Down × List Rule) → Down → List Rule
broken_before None _ = []
broken_before (Some (last, rules)) message = if same_message last message then rules else []

abbrev pub before_at : Last → Option ℕ → Down → List Rule
before_at last None _ = []
before_at last (Some onu) message = broken_before (last onu) message

abbrev pub told_before : Last → Heard → List Rule
told_before last (HeardDown None) = []
told_before last (HeardDown (Some message)) = before_at last (to_onu message) message
told_before last (HeardUp message delay) = []
told_before last (HeardGrant grant) = []

-- what wasn't told before
abbrev pub news_of : List Rule → List Rule → List Rule
news_of before [] = []
news_of before (rule ∷ rules) =
    if list_any (λ other. same_told_once other rule) before then news_of before rules else rule ∷ news_of before rules

abbrev pub last_at : Last → Option ℕ → Down → List Rule → Last
last_at last None _ rules = last
last_at last (Some onu) message rules = λ other. if other == onu then Some (message, rules) else last other

abbrev pub last_after : Last → Heard → List Rule → Last
last_after last (HeardDown None) rules = last
last_after last (HeardDown (Some message)) rules = last_at last (to_onu message) message rules
last_after last (HeardUp message delay) rules = last
last_after last (HeardGrant grant) rules = last

-- ---- all that is told

abbrev pub tells : Settings → Notes → Last → ℕ → Heard → List Rule
tells settings notes last now heard =
    cut_of notes now heard (judged_subjects notes.sendings notes.waiting now heard)
    ++ news_of (told_before last heard) (broken_by settings notes now heard other_rules)

-- at the end of the log: those that are overdue in its last frame
abbrev pub late_of : Notes → ℕ → List Subject → List Rule
late_of notes now [] = []
late_of notes now (subject ∷ subjects) =
    if overdue notes.sendings now subject
    then rule.Copies ∷ late_of notes now subjects
    else late_of notes now subjects

abbrev pub audit_from : Settings → Notes → Last → ℕ → List (ℕ × Heard) → List (List Rule)
audit_from settings notes last before [] = late_of notes before notes.waiting ∷ []
audit_from settings notes last before ((now, heard) ∷ others) =
    tells settings notes last now heard
    ∷ audit_from settings (notes_after settings notes now heard)
    (last_after last heard (broken_by settings notes now heard other_rules)) now others

-- of each thing that is heard, and at the end
abbrev pub audit : Settings → Notes → List (ℕ × Heard) → List (List Rule)
audit settings notes timed = audit_from settings notes no_last 0 timed

-- ---- the terminal's side

-- `copies`, whatever is heard when it is known, and what the terminal's own messages and grants break
abbrev pub terminal_tells : Settings → Notes → Last → ℕ → Heard → List Rule
terminal_tells settings notes last now heard =
    cut_of notes now heard (judged_subjects notes.sendings notes.waiting now heard)
    ++ (if is_terminals heard
    then news_of (told_before last heard) (broken_by settings notes now heard other_rules)
    else [])

abbrev pub terminal_from : Settings → Notes → Last → ℕ → List (ℕ × Heard) → List Rule
terminal_from settings notes last before [] = late_of notes before notes.waiting
terminal_from settings notes last before ((now, heard) ∷ others) =
    terminal_tells settings notes last now heard
    ++ terminal_from settings (notes_after settings notes now heard)
    (last_after last heard (broken_by settings notes now heard other_rules)) now others

-- of no run from an opening anything is told of the terminal, whatever bursts came, and in whatever frame it begins
abbrev pub TerminalIsNotBlamed : Type 0
TerminalIsNotBlamed =
    (config : PortConfig) (final : PortState) (entries : List Entry) (now : ℕ) (timed : List (ℕ × Heard))
    (settings : Settings) (last : Last)
    → Run (opening_of config) entries final
    → TimedSays (mask_value config.mask) now entries timed
    → settings.teqd ≡ config.teqd
    → terminal_from settings notes_whole last 0 timed ≡ []

-- nor to who hears what is said from any point on
abbrev pub TerminalIsNotBlamedAnywhere : Type 0
TerminalIsNotBlamedAnywhere =
    (config : PortConfig) (final : PortState) (entries : List Entry) (now begun : ℕ)
    (before later : List (ℕ × Heard)) (settings : Settings) (last : Last)
    → Run (opening_of config) entries final
    → TimedSays (mask_value config.mask) now entries (before ++ later)
    → settings.teqd ≡ config.teqd
    → terminal_from settings (notes_midway begun) last 0 later ≡ []
