-- Some of the rules, as those that are told or those that were judged, and which findings are told (this profile's own
-- rule).
use Rattle.std.specs.Prelude.{ℕ, Bool, false, not, ◌&&◌, replicate, slice_index_or, slice_set}
use Rattle.std.specs.List.{list_any}
use Rattle.gp_observer.specs.declared.rule.Rule.{Rule}
use Rattle.gp_observer.specs.declared.rule.Rule.TheVariants as rule
use Rattle.gp_observer.specs.Heard.{Heard, HeardDown, HeardUp, HeardGrant}
use Rattle.gp_audit.specs.declared.options.FindingChoice.{FindingChoice}
use Rattle.gp_audit.specs.declared.rule_set.RuleSet.{RuleSet}

-- how many rules there are
abbrev pub rules : ℕ
rules = 19

-- the place of a rule in their order
abbrev pub rule_place : Rule → ℕ
rule_place rule.Garbled = 0
rule_place rule.Copies = 1
rule_place rule.Range = 2
rule_place rule.Barred = 3
rule_place rule.Unasked = 4
rule_place rule.Taken = 5
rule_place rule.Renumbered = 6
rule_place rule.Nobody = 7
rule_place rule.Unranged = 8
rule_place rule.Delay = 9
rule_place rule.Early = 10
rule_place rule.Shared = 11
rule_place rule.NotHeld = 12
rule_place rule.Grant = 13
rule_place rule.Disabled = 14
rule_place rule.Anew = 15
rule_place rule.Number = 16
rule_place rule.Acknowledge = 17
rule_place rule.Drift = 18

-- the rule is in the set
abbrev pub contains : RuleSet → Rule → Bool
contains set rule = slice_index_or set.places (rule_place rule) false

-- no rule is in the set
abbrev pub is_empty : RuleSet → Bool
is_empty set = not (list_any (λ is_in. is_in) set.places)

-- all rules, or none
abbrev pub each_rule : Bool → RuleSet
each_rule is_in = record { places = replicate rules is_in }

-- the rule is put in, or taken out
abbrev pub with_rule : Bool → RuleSet → Rule → RuleSet
with_rule is_in set rule = record { places = slice_set set.places (rule_place rule) is_in }

-- what is heard is of a side that is told
abbrev pub is_side_told : FindingChoice → Heard → Bool
is_side_told told (HeardDown message) = told.terminal
is_side_told told (HeardUp message delay) = told.units
is_side_told told (HeardGrant grant) = told.terminal

-- it is told that this breaks the rule
abbrev pub is_told : FindingChoice → Heard → Rule → Bool
is_told told heard rule = is_side_told told heard && contains told.rules rule
