-- The names of rules, and whose rule each is (this profile's own rule).
use Rattle.std.specs.Prelude.{ℕ, List, [], ◌∷◌, Option, None, Some, if◌then◌else◌, codes}
use Rattle.std.specs.Str.{bytes_eq}
use Rattle.gp_observer.specs.declared.rule.Rule.{Rule}
use Rattle.gp_observer.specs.declared.rule.Rule.TheVariants as rule
use Rattle.gp_observer.specs.Heard.{Heard, HeardDown, HeardUp, HeardGrant}
use Rattle.gp_finding.specs.declared.names.Side.{Side}
use Rattle.gp_finding.specs.declared.names.Side.TheVariants as sides

-- messages down and grants are the terminal's, messages up a unit's
abbrev pub side_of : Heard → Side
side_of (HeardDown message) = sides.Terminal
side_of (HeardUp message delay) = sides.Unit
side_of (HeardGrant grant) = sides.Terminal

abbrev pub side_name : Side → List ℕ
side_name sides.Terminal = codes "terminal"
side_name sides.Unit = codes "unit"

-- all rules, in their order
abbrev pub rules : List Rule
rules =
    rule.Garbled ∷ rule.Copies ∷ rule.Range ∷ rule.Barred ∷ rule.Unasked ∷ rule.Taken ∷ rule.Renumbered ∷ rule.Nobody
    ∷ rule.Unranged ∷ rule.Delay ∷ rule.Early ∷ rule.Shared ∷ rule.NotHeld ∷ rule.Grant ∷ rule.Disabled ∷ rule.Anew
    ∷ rule.Number ∷ rule.Acknowledge ∷ rule.Drift ∷ []

abbrev pub rule_name : Rule → List ℕ
rule_name rule.Garbled = codes "garbled"
rule_name rule.Copies = codes "copies"
rule_name rule.Range = codes "range"
rule_name rule.Barred = codes "barred"
rule_name rule.Unasked = codes "unasked"
rule_name rule.Taken = codes "taken"
rule_name rule.Renumbered = codes "renumbered"
rule_name rule.Nobody = codes "nobody"
rule_name rule.Unranged = codes "unranged"
rule_name rule.Delay = codes "delay"
rule_name rule.Early = codes "early"
rule_name rule.Shared = codes "shared"
rule_name rule.NotHeld = codes "not-held"
rule_name rule.Grant = codes "grant"
rule_name rule.Disabled = codes "disabled"
rule_name rule.Anew = codes "anew"
rule_name rule.Number = codes "number"
rule_name rule.Acknowledge = codes "acknowledge"
rule_name rule.Drift = codes "drift"

-- the first of these that has this name, if one has
abbrev pub first_named : List ℕ → List Rule → Option Rule
first_named name [] = None
first_named name (rule ∷ others) = if bytes_eq name (rule_name rule) then Some rule else first_named name others

-- the rule of this name, if there is one
abbrev pub rule_named : List ℕ → Option Rule
rule_named name = first_named name rules
