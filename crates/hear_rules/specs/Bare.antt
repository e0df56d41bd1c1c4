-- A log without delays: the same is found in it, but for the rule of delays (this profile's own rule).
use Rattle.std.specs.Prelude.{◌≡◌, ℕ, Bool, true, false, List, [], ◌∷◌, ◌++◌, map, None}
use Rattle.gp_observer.specs.Heard.{Heard, HeardDown, HeardUp, HeardGrant}
use Rattle.hear_rules.specs.declared.rule.Rule.{Rule}
use Rattle.hear_rules.specs.declared.rule.Rule.TheVariants as rule
use Rattle.hear_rules.specs.Known.{Known, known_whole, known_midway, known_after}
use Rattle.hear_rules.specs.Rules.{Settings}
use Rattle.hear_rules.specs.Findings.{broken_of}
use Rattle.hear_rules.specs.Notes.{Notes, notes_whole, notes_midway, notes_after}
use Rattle.hear_rules.specs.Audit.{judge}

-- the delay is left out
abbrev pub without_delay : Heard → Heard
without_delay (HeardDown message) = HeardDown message
without_delay (HeardUp message delay) = HeardUp message None
without_delay (HeardGrant grant) = HeardGrant grant

-- all rules but `delay`
abbrev pub rules_but_delay : List Rule
rules_but_delay =
    rule.Garbled ∷ rule.Range ∷ rule.Overhead ∷ rule.Barred ∷ rule.Unasked ∷ rule.Taken ∷ rule.Renumbered
    ∷ rule.Nobody ∷ rule.Unranged ∷ rule.Early ∷ rule.Shared ∷ rule.NotHeld ∷ rule.Grant ∷ []

abbrev pub findings_but_delay : Settings → Known → List Heard → List Rule
findings_but_delay settings known [] = []
findings_but_delay settings known (heard ∷ others) =
    broken_of settings known heard rules_but_delay ++ findings_but_delay settings (known_after known heard) others

-- the same is found without the delays
abbrev pub FindsTheSame : Settings → Known → List Heard → Type 0
FindsTheSame settings known said =
    findings_but_delay settings known (map without_delay said) ≡ findings_but_delay settings known said

-- a log from its beginning, or from the middle, has the same findings without its delays
abbrev pub DelaysFindNoOther : Type 0
DelaysFindNoOther =
    (settings : Settings) (said : List Heard)
    → FindsTheSame settings known_whole said × FindsTheSame settings known_midway said

-- ---- along the frames, of all rules

abbrev pub goes_by_delay : Rule → Bool
goes_by_delay rule.Delay = true
goes_by_delay rule.Drift = true
goes_by_delay _ = false

-- each rule but these answers of each thing that is heard without its delay what it answers of it with it
abbrev pub JudgesTheSame : Settings → Notes → Notes → List (ℕ × Heard) → Type 0
JudgesTheSame settings bare notes [] = Unit {0}
JudgesTheSame settings bare notes ((now, heard) ∷ others) =
    ((rule : Rule) → goes_by_delay rule ≡ false
    → judge settings bare now (without_delay heard) rule ≡ judge settings notes now heard rule)
    × JudgesTheSame settings (notes_after settings bare now (without_delay heard))
    (notes_after settings notes now heard) others

-- from the beginning of a log, or from the middle
abbrev pub DelaysJudgeNoOther : Type 0
DelaysJudgeNoOther =
    (settings : Settings) (begun : ℕ) (timed : List (ℕ × Heard))
    → JudgesTheSame settings notes_whole notes_whole timed
    × JudgesTheSame settings (notes_midway begun) (notes_midway begun) timed
