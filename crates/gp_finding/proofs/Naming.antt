-- Names of rules are read back.
use Rattle.std.proofs.Common.{◌≡◌, ℕ, List, [], ◌∷◌, Some, refl, sym, ap, ◌∙◌, inl, inr}
use Rattle.std.proofs.lemmas.Bool.{cases_Bool}
use Rattle.std.proofs.lemmas.Slice.Eq.{bytes_eq-Decides}
use Rattle.std.specs.Str.{bytes_eq}
use Rattle.gp_observer.specs.declared.rule.Rule.{Rule}
use Rattle.gp_observer.specs.declared.rule.Rule.TheVariants as rule
use Rattle.gp_finding.specs.Laws.{NamesAreApart, NamesAreReadBack}
use Rattle.gp_finding.specs.Names.{first_named, rule_name, rule_named, rules}

-- the name of each rule is read back
own : (r : Rule) → rule_named (rule_name r) ≡ Some r
own rule.Garbled = refl
own rule.Copies = refl
own rule.Range = refl
own rule.Barred = refl
own rule.Unasked = refl
own rule.Taken = refl
own rule.Renumbered = refl
own rule.Nobody = refl
own rule.Unranged = refl
own rule.Delay = refl
own rule.Early = refl
own rule.Shared = refl
own rule.NotHeld = refl
own rule.Grant = refl
own rule.Disabled = refl
own rule.Anew = refl
own rule.Number = refl
own rule.Acknowledge = refl
own rule.Drift = refl

-- what is read of a name has it
named : (name : List ℕ) (of : List Rule) (r : Rule) → first_named name of ≡ Some r → name ≡ rule_name r
named name [] r found = absurd (cc)
named name (first ∷ others) r found =
    elim (cases_Bool (bytes_eq name (rule_name first))) [
      | inl same ↦
          let is = rw same at found in
          let one : first ≡ r = cc in
          (bytes_eq-Decides name (rule_name first)).0 same ∙ ap rule_name one
      | inr other ↦ named name others r (rw other at found)
    ]

pub read_back : NamesAreReadBack
read_back name r = ((λ found. named name rules r found), (λ same. ap rule_named same ∙ own r))

pub apart : NamesAreApart
apart first second same =
    let one : Some first ≡ Some second = sym (own first) ∙ ap rule_named same ∙ own second in
    cc
