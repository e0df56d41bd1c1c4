-- Whether a choice of rules leaves one that is judged on a side that is told (this profile's own rule).
use Rattle.std.specs.Prelude.{◌≡◌, Bool, true, false, not, ◌&&◌, ◌||◌, [], ◌∷◌, ◌++◌, Option, ℕ, map, filter}
use Rattle.std.specs.List.{list_any}
use Rattle.gp_ploam.specs.declared.message.Down.{Down}
use Rattle.gp_ploam.specs.declared.message.Up.{Up}
use Rattle.gp_observer.specs.declared.rule.Rule.{Rule}
use Rattle.gp_observer.specs.declared.rule.Rule.TheVariants as rule
use Rattle.gp_observer.specs.Heard.{Heard, answer_rules, breaks, message_rules}
use Rattle.gp_observer.specs.Rules.{Settings}
use Rattle.gp_observer.specs.Watch.{Watch}
use Rattle.gp_finding.specs.Names.{rules}
use Rattle.gp_audit.specs.Judging.{is_of_terminal, is_of_units}
use Rattle.gp_audit.specs.RuleSet.{contains, is_told}
use Rattle.gp_audit.specs.declared.options.FindingChoice.{FindingChoice}

-- it is judged only where a log doesn't begin in the middle: who asked before isn't known
abbrev pub is_of_whole : Rule → Bool
is_of_whole rule.Unasked = true
is_of_whole _ = false

-- it is judged on one of these sides, of a log that begins in the middle or doesn't
abbrev pub is_judged_on : Bool → Bool → Bool → Rule → Bool
is_judged_on midway terminal units rule =
    ((terminal && is_of_terminal rule) || (units && is_of_units rule)) && not (midway && is_of_whole rule)

-- one of these rules is judged so
abbrev pub some_judged : Bool → Bool → Bool → (Rule → Bool) → Bool
some_judged midway terminal units these =
    list_any (λ rule. these rule && is_judged_on midway terminal units rule) rules

-- it is judged on a side of which a choice tells
abbrev pub may_be_judged : Bool → FindingChoice → Rule → Bool
may_be_judged midway choice rule = is_judged_on midway choice.terminal choice.units rule

-- a choice leaves a rule that is judged on a side of which it tells
abbrev pub tells_some : Bool → FindingChoice → Bool
tells_some midway choice = some_judged midway choice.terminal choice.units (λ rule. contains choice.rules rule)

-- ---- laws

-- on each side just these are judged: a code's check octet, what a message says, and of the terminal a grant
pub record SidesAreJudged : Type 0 where
  pub terminal : (settings : Settings) (watch : Watch) (message : Down)
      → filter is_of_terminal rules
      ≡ rule.Garbled ∷ (map (λ judged. judged.1) (message_rules settings watch message) ++ (rule.Grant ∷ []))
  pub units : (settings : Settings) (watch : Watch) (message : Up) (delay : Option ℕ)
      → filter is_of_units rules ≡ rule.Garbled ∷ map (λ judged. judged.1) (answer_rules settings watch message delay)

-- of a choice that leaves none no finding would be told, whatever is heard
abbrev pub NoneTellsNothing : Type 0
NoneTellsNothing =
    (choice : FindingChoice) (settings : Settings) (watch : Watch) (heard : Heard)
    → tells_some watch.midway choice ≡ false
    → list_any (is_told choice heard) (breaks settings watch heard) ≡ false
