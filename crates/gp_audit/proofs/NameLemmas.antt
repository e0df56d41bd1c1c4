-- Rules put in or taken out by their names, one after another.
use Rattle.std.proofs.Common.{◌≡◌, ℕ, ◌+◌, ◌<◌, Bool, List, [], ◌∷◌, ◌++◌, drop, get_or, length, map, Option, None, Some, Result, Ok, Err, ok_or, refl, sym, ap, ◌∙◌}
use Rattle.std.specs.Borrow.{Bor}
use Rattle.gp_observer.specs.declared.rule.Rule.{Rule}
use Rattle.gp_finding.specs.Names.{rule_named}
use Rattle.gp_audit.specs.declared.rule_set.RuleSet.{RuleSet}
use Rattle.gp_audit.specs.Naming.{◌>>=◌, names_set}
use Rattle.gp_audit.specs.RuleSet.{with_rule}
use Rattle.gp_audit.specs.Texts.{Text, names_in, names_of}
use Rattle.gp_audit.proofs.TextLemmas.{texts_from}

-- what follows a name, by whose it is
abbrev next : Bool → RuleSet → Text → List Text → Option Rule → Result RuleSet Text
next is_in set name names found = ok_or found name >>= (λ (rule : Rule). names_set is_in (with_rule is_in set rule) names)

-- the rule of the first name is put in, or taken out, and then the others
pub named : (is_in : Bool) (set : RuleSet) (name : Text) (names : List Text) (rule : Rule) → Some rule ≡ rule_named name
    → names_set is_in set (name ∷ names) ≡ names_set is_in (with_rule is_in set rule) names
named is_in set name names rule known = ap (next is_in set name names) (sym known)

-- a first name that no rule has is given back
pub unnamed : (is_in : Bool) (set : RuleSet) (name : Text) (names : List Text) → None ≡ rule_named name → names_set is_in set (name ∷ names) ≡ Err name
unnamed is_in set name names none = ap (next is_in set name names) (sym none)

-- names and then others
behind : (is_in : Bool) (set : RuleSet) (names others : List Text)
    → names_set is_in set (names ++ others) ≡ (names_set is_in set names >>= (λ (then : RuleSet). names_set is_in then others))
behind is_in set [] others = refl
behind is_in set (name ∷ names) others =
    elim (rule_named name) as (λ (found : Option Rule). next is_in set name (names ++ others) found
    ≡ (next is_in set name names found >>= (λ (then : RuleSet). names_set is_in then others))) [
      | None ↦ refl
      | Some rule ↦ behind is_in (with_rule is_in set rule) names others
    ]

-- what follows what names gave
abbrev followed : Bool → List Text → Result RuleSet Text → Result RuleSet Text
followed is_in others given = given >>= (λ (then : RuleSet). names_set is_in then others)

-- no text
abbrev pub no_text : Bor Text
no_text = record { ref_ptr = (0, 0); now = [] }

-- the lists from one on were set so far, and its names are
pub list_from_set : (is_in : Bool) (set after : RuleSet) (lists : List (Bor Text)) (at : ℕ) → at < length lists
    → names_set is_in set (names_of (get_or lists at no_text).now) ≡ Ok after
    → names_set is_in set (names_in (drop at (map (λ word. word.now) lists))) ≡ names_set is_in after (names_in (drop (at + 1) (map (λ word. word.now) lists)))
list_from_set is_in set after lists at within done =
    let others = names_in (drop (at + 1) (map (λ word. word.now) lists)) in
    ap (λ (left : List Text). names_set is_in set (names_in left)) (texts_from lists at no_text within)
    ∙ behind is_in set (names_of (get_or lists at no_text).now) others
    ∙ ap (followed is_in others) done

-- one of its names is no rule's
pub list_from_wrong : (is_in : Bool) (set : RuleSet) (lists : List (Bor Text)) (at : ℕ) (name : Text) → at < length lists
    → names_set is_in set (names_of (get_or lists at no_text).now) ≡ Err name
    → names_set is_in set (names_in (drop at (map (λ word. word.now) lists))) ≡ Err name
list_from_wrong is_in set lists at name within wrong =
    let others = names_in (drop (at + 1) (map (λ word. word.now) lists)) in
    ap (λ (left : List Text). names_set is_in set (names_in left)) (texts_from lists at no_text within)
    ∙ behind is_in set (names_of (get_or lists at no_text).now) others
    ∙ ap (followed is_in others) wrong
