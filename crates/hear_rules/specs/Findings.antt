-- What is found in all that is heard: the rules that each thing breaks, by what is known before it (this profile's own
-- rule).
use Rattle.std.specs.Prelude.{List, [], ◌∷◌, ◌++◌}
use Rattle.gp_observer.specs.Heard.{Heard}
use Rattle.hear_rules.specs.declared.rule.Rule.{Rule}
use Rattle.hear_rules.specs.declared.rule.Rule.TheVariants as rule
use Rattle.hear_rules.specs.declared.rule.Verdict.{Verdict}
use Rattle.hear_rules.specs.declared.rule.Verdict.TheVariants.{Kept, Broken, NotJudged}
use Rattle.hear_rules.specs.Known.{Known, known_after}
use Rattle.hear_rules.specs.Rules.{Settings, judge_known}

-- in the order in which they are told
abbrev pub all_rules : List Rule
all_rules =
    rule.Garbled ∷ rule.Range ∷ rule.Overhead ∷ rule.Barred ∷ rule.Unasked ∷ rule.Taken ∷ rule.Renumbered
    ∷ rule.Nobody ∷ rule.Unranged ∷ rule.Delay ∷ rule.Early ∷ rule.Shared ∷ rule.NotHeld ∷ rule.Grant ∷ []

abbrev pub told_if : Verdict → Rule → List Rule → List Rule
told_if Broken rule rules = rule ∷ rules
told_if Kept rule rules = rules
told_if NotJudged rule rules = rules

-- those of these rules that are broken
abbrev pub broken_of : Settings → Known → Heard → List Rule → List Rule
broken_of settings known heard [] = []
broken_of settings known heard (rule ∷ rules) =
    told_if (judge_known settings known heard rule) rule (broken_of settings known heard rules)

abbrev pub breaks : Settings → Known → Heard → List Rule
breaks settings known heard = broken_of settings known heard all_rules

-- all findings, one after another
abbrev pub findings : Settings → Known → List Heard → List Rule
findings settings known [] = []
findings settings known (heard ∷ others) =
    breaks settings known heard ++ findings settings (known_after known heard) others
