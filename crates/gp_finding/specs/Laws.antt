-- Laws of names (this profile's own rule).
use Rattle.std.specs.Prelude.{◌≡◌, ◌↔◌, ℕ, List, Some}
use Rattle.gp_observer.specs.declared.rule.Rule.{Rule}
use Rattle.gp_finding.specs.Names.{rule_name, rule_named}

-- a name is read as the rule that has it, and as no other
abbrev pub NamesAreReadBack : Type 0
NamesAreReadBack = (name : List ℕ) (rule : Rule) → (rule_named name ≡ Some rule) ↔ (name ≡ rule_name rule)

-- no two rules have one name
abbrev pub NamesAreApart : Type 0
NamesAreApart = (first second : Rule) → rule_name first ≡ rule_name second → first ≡ second
