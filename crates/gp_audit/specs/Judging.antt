-- Which rules that are told are judged of what is heard, on each side, and which garbled codes are left out (this
-- profile's own rule).
use Rattle.std.specs.Prelude.{◌≡◌, ◌+◌, ◌^◌, ◌-◌, ◌==◌, ℕ, Bool, true, false, not, ◌&&◌, ◌||◌, if◌then◌else◌, List, [], ◌∷◌, ◌++◌, filter, length, min, None, Some}
use Rattle.std.specs.List.{fold, list_all, list_any}
use Rattle.gp_ploam.specs.declared.message.Down.TheVariants.{NoMessage}
use Rattle.gp_observer.specs.declared.rule.Rule.{Rule}
use Rattle.gp_observer.specs.declared.rule.Rule.TheVariants as rule
use Rattle.gp_observer.specs.Heard.{Heard, HeardDown, HeardUp, HeardGrant, breaks, is_terminals}
use Rattle.gp_observer.specs.Judged.{judges}
use Rattle.gp_observer.specs.Rules.{Settings}
use Rattle.gp_observer.specs.Watch.{Watch, is_new}
use Rattle.gp_finding.specs.Names.{rules as all_rules}
use Rattle.gp_audit.specs.declared.judged.Judged.{Judged}
use Rattle.gp_audit.specs.declared.options.FindingChoice.{FindingChoice}
use Rattle.gp_audit.specs.declared.rule_set.RuleSet.{RuleSet}
use Rattle.gp_audit.specs.RuleSet.{contains, each_rule, is_empty, is_side_told, is_told, rules as rules_there_are, with_rule}

-- ---- the rules that may be judged

abbrev pub code_rules : List Rule
code_rules = rule.Garbled ∷ []

abbrev pub down_rules : List Rule
down_rules =
    rule.Garbled ∷ rule.Copies ∷ rule.Range ∷ rule.Barred ∷ rule.Unasked ∷ rule.Taken ∷ rule.Renumbered ∷ rule.Nobody
    ∷ rule.Unranged ∷ rule.Delay ∷ rule.Early ∷ rule.Shared ∷ rule.NotHeld ∷ []

abbrev pub unit_rules : List Rule
unit_rules = rule.Garbled ∷ rule.Disabled ∷ rule.Anew ∷ rule.Number ∷ rule.Acknowledge ∷ rule.Drift ∷ []

abbrev pub grant_rules : List Rule
grant_rules = rule.Grant ∷ []

-- those that may be judged of what is heard, by what is known before it: of a message down with the copy that tells it
abbrev pub rules_of : Watch → Heard → List Rule
rules_of watch (HeardDown None) = code_rules
rules_of watch (HeardDown (Some NoMessage)) = code_rules
rules_of watch (HeardDown (Some message)) =
    if is_new watch message then down_rules else code_rules
rules_of watch (HeardUp None delay) = code_rules
rules_of watch (HeardUp (Some message) delay) = unit_rules
rules_of watch (HeardGrant grant) = grant_rules

-- ---- those that are judged

-- the rules of a list that pass join a set
abbrev pub joined_by : (Rule → Bool) → List Rule → RuleSet → RuleSet
joined_by passes these set = fold (λ joined rule. if passes rule then with_rule true joined rule else joined) set these

-- those that are told and judged of what is heard, by what is known before it, join those that were
abbrev pub judged_with : FindingChoice → Watch → Heard → RuleSet → RuleSet
judged_with told watch heard judged =
    if is_side_told told heard
    then joined_by (λ rule. contains told.rules rule && judges watch heard rule) (rules_of watch heard) judged
    else judged

-- ---- garbled codes

-- its check octet is wrong
abbrev pub is_garbled : Heard → Bool
is_garbled (HeardDown None) = true
is_garbled (HeardUp None delay) = true
is_garbled _ = false

-- it is garbled, and no finding tells so: whatever side is told, less is known of it then
abbrev pub leaves_garbled : FindingChoice → Heard → Bool
leaves_garbled told heard = is_garbled heard && not (is_told told heard rule.Garbled)

-- what is counted, as far as 64 bits go
abbrev pub added : ℕ → ℕ → ℕ
added one other = min (one + other) (2 ^ 64 - 1)

-- ---- what was judged

-- before anything was heard
abbrev pub nothing_judged : Judged
nothing_judged = record { terminal = each_rule false; units = each_rule false; garbled = 0 }

-- behind something that is heard, by what is known before it
abbrev pub judged_after : FindingChoice → Watch → Heard → Judged → Judged
judged_after told watch heard judged =
    record {
      terminal = if is_terminals heard then judged_with told watch heard judged.terminal else judged.terminal;
      units = if is_terminals heard then judged.units else judged_with told watch heard judged.units;
      garbled = if leaves_garbled told heard then added judged.garbled 1 else judged.garbled;
    }

-- the rules of either set
abbrev pub of_both : RuleSet → RuleSet → RuleSet
of_both one other = joined_by (contains other) all_rules one

-- of two ports
unfoldable pub judged_on_both : Judged → Judged → Judged
judged_on_both one other =
    record {
      terminal = of_both one.terminal other.terminal;
      units = of_both one.units other.units;
      garbled = added one.garbled other.garbled;
    }

-- ---- what was missed

-- no rule that is told was judged of anything
abbrev pub is_nothing : Judged → Bool
is_nothing judged = is_empty judged.terminal && is_empty judged.units

-- the rule was judged, on either side
abbrev pub was_judged : Judged → Rule → Bool
was_judged judged rule = contains judged.terminal rule || contains judged.units rule

-- it is judged of what a unit says
abbrev pub is_of_units : Rule → Bool
is_of_units rule.Garbled = true
is_of_units rule.Disabled = true
is_of_units rule.Anew = true
is_of_units rule.Number = true
is_of_units rule.Acknowledge = true
is_of_units rule.Drift = true
is_of_units _ = false

-- it is judged of what the terminal says
abbrev pub is_of_terminal : Rule → Bool
is_of_terminal rule.Garbled = true
is_of_terminal rule = not (is_of_units rule)

-- it is judged on a side that is told
abbrev pub is_of_told : FindingChoice → Rule → Bool
is_of_told told rule = (told.terminal && is_of_terminal rule) || (told.units && is_of_units rule)

-- it was missed: it is told, but was not judged
abbrev pub misses : FindingChoice → Judged → Rule → Bool
misses told judged rule = contains told.rules rule && is_of_told told rule && not (was_judged judged rule)

-- nothing was judged of a side that is told, though `garbled` is told, which alone is judged on both
abbrev pub misses_side : FindingChoice → Judged → Bool
misses_side told judged =
    contains told.rules rule.Garbled
    && ((told.terminal && is_empty judged.terminal) || (told.units && is_empty judged.units))

-- not all was judged: a rule was missed, or a side, or a code was garbled of which no finding tells so
abbrev pub leaves_some : FindingChoice → Judged → Bool
leaves_some told judged =
    not (judged.garbled == 0) || misses_side told judged || list_any (misses told judged) all_rules

-- ---- laws

-- both sets have a place for each rule
abbrev pub AreWhole : Judged → Type 0
AreWhole judged =
    (length judged.terminal.places ≡ rules_there_are) × (length judged.units.places ≡ rules_there_are)

-- behind something that is heard just the rules that are told and judged of it join those of its side; so each rule of
-- which a finding is told was judged
pub record JustTheJudged (told : FindingChoice) (watch : Watch) (heard : Heard) (before after : Judged) : Type 0 where
  pub whole : AreWhole after
  pub terminal : (rule : Rule) → contains after.terminal rule
      ≡ (contains before.terminal rule || (is_terminals heard && is_told told heard rule && judges watch heard rule))
  pub units : (rule : Rule) → contains after.units rule
      ≡ (contains before.units rule || (not (is_terminals heard) && is_told told heard rule && judges watch heard rule))
  pub found : (settings : Settings)
      → list_all (was_judged after) (filter (is_told told heard) (breaks settings watch heard)) ≡ true

abbrev pub JustTheJudgedJoin : Type 0
JustTheJudgedJoin =
    AreWhole nothing_judged
    × ((told : FindingChoice) (watch : Watch) (heard : Heard) (before : Judged) → AreWhole before
    → JustTheJudged told watch heard before (judged_after told watch heard before))

-- of two ports just what was judged on one of them
pub record OfEither (one other both : Judged) : Type 0 where
  pub whole : AreWhole both
  pub terminal : (rule : Rule) → contains both.terminal rule ≡ (contains one.terminal rule || contains other.terminal rule)
  pub units : (rule : Rule) → contains both.units rule ≡ (contains one.units rule || contains other.units rule)

abbrev pub EitherJudged : Type 0
EitherJudged = (one other : Judged) → AreWhole one → OfEither one other (judged_on_both one other)

-- the rules of each side are those that may be judged there
abbrev pub RulesHaveSides : Type 0
RulesHaveSides =
    (filter is_of_terminal all_rules ≡ down_rules ++ grant_rules) × (filter is_of_units all_rules ≡ unit_rules)
