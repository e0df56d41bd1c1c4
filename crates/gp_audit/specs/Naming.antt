-- Rules that are put in or taken out by their names, one after another.
-- Inside: no public contract cites this.
use Rattle.std.specs.Prelude.{ℕ, ◌+◌, Bool, true, false, List, [], ◌∷◌, length, Option, None, Some, Result, Ok, Err, ok_or}
use Rattle.std.specs.Borrow.{Bor}
use Rattle.gp_finding.specs.Names.{rule_named}
use Rattle.gp_audit.specs.declared.rule_set.RuleSet.{RuleSet}
use Rattle.gp_audit.specs.RuleSet.{each_rule, with_rule}
use Rattle.gp_audit.specs.Texts.{Text, names_in, names_of}

-- the next step, if each name so far is a rule's
infixl 10 ◌>>=◌
abbrev pub ◌>>=◌ : {A B : Type 0} → Result A Text → (A → Result B Text) → Result B Text
Ok x >>= f = f x
Err name >>= f = Err name

-- the rules of these names are put in, or taken out; or the first name that no rule has
abbrev pub names_set : Bool → RuleSet → List Text → Result RuleSet Text
names_set is_in set [] = Ok set
names_set is_in set (name ∷ names) = do
  rule ← ok_or (rule_named name) name
  names_set is_in (with_rule is_in set rule) names

-- the rules that lists name, and all where they are left out
abbrev pub only_rules : Option (List Text) → Result RuleSet Text
only_rules None = Ok (each_rule true)
only_rules (Some lists) = names_set true (each_rule false) (names_in lists)

-- the names of what is left of a list, if more is left
abbrev pub names_left : Option (Bor Text) → List Text
names_left None = []
names_left (Some list) = names_of list.now

-- how much is left, with the comma before it
abbrev pub octets_left : Option (Bor Text) → ℕ
octets_left None = 0
octets_left (Some list) = length list.now + 1
