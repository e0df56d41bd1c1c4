-- Which rules are told, by lists of their names (this profile's own rule).
use Rattle.std.specs.Prelude.{Bool, true, ◌&&◌, not, List, [], ◌++◌, Option, None, Some, find, is_none}
use Rattle.std.specs.List.{list_any}
use Rattle.std.specs.Str.{bytes_eq}
use Rattle.gp_observer.specs.declared.rule.Rule.{Rule}
use Rattle.gp_finding.specs.Names.{rule_name, rule_named}
use Rattle.gp_audit.specs.Texts.{Text, names_in}

-- no rule has this name
abbrev pub is_unknown : Text → Bool
is_unknown name = is_none (rule_named name)

-- the first of these names that no rule has
abbrev pub first_unknown : List Text → Option Text
first_unknown names = find is_unknown names

-- one of these names is the rule's
abbrev pub is_among : List Text → Rule → Bool
is_among names rule = list_any (λ name. bytes_eq name (rule_name rule)) names

-- the names of lists, and none where they are left out
abbrev pub names_given : Option (List Text) → List Text
names_given None = []
names_given (Some lists) = names_in lists

-- the first name that no rule has, of the lists of `only`, then of those of `without`
abbrev pub unknown_name : Option (List Text) → Option (List Text) → Option Text
unknown_name only without = first_unknown (names_given only ++ names_given without)

-- the rule is one of those that are told alone; all are where they are left out
abbrev pub is_only : Option (List Text) → Rule → Bool
is_only None rule = true
is_only (Some lists) rule = is_among (names_in lists) rule

-- the rule is told: it is one of those, and isn't named among those that are left out
abbrev pub is_chosen : Option (List Text) → Option (List Text) → Rule → Bool
is_chosen only without rule = is_only only rule && not (is_among (names_given without) rule)
