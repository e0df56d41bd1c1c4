-- Which rules are in a set behind names that were put in or taken out.
use Rattle.std.proofs.Common.{◌≡◌, ℕ, ◌<◌, Bool, true, false, if◌then◌else◌, List, [], ◌∷◌, ◌++◌, length, get_or, Option, None, Some, Ok, Err, refl, sym, ap, ◌∙◌, inl, inr, arith, ◌&&◌, not}
use Rattle.std.proofs.lemmas.Bool.{cases_Bool, false≢true}
use Rattle.std.proofs.lemmas.List.{get_or-replicate, get_or-set_same, get_or-set_other, length-set}
use Rattle.std.proofs.lemmas.Slice.Eq.{bytes_eq-Decides}
use Rattle.std.specs.Str.{bytes_eq}
use Rattle.gp_observer.specs.declared.rule.Rule.{Rule}
use Rattle.gp_observer.specs.declared.rule.Rule.TheVariants as rule
use Rattle.gp_finding.specs.Names.{rule_name, rule_named, rules as all_rules}
use Rattle.gp_finding.proofs.Naming.{read_back}
use Rattle.gp_audit.specs.declared.rule_set.RuleSet.{RuleSet}
use Rattle.gp_audit.specs.Chosen.{first_unknown, is_among, is_chosen, is_only, is_unknown, names_given, unknown_name}
use Rattle.gp_audit.specs.Naming.{names_set, only_rules}
use Rattle.gp_audit.specs.RuleSet.{contains, each_rule, rule_place, with_rule}
use Rattle.gp_audit.specs.Texts.{Text, names_in}
use Rattle.gp_audit.proofs.NameLemmas.{named, unnamed}

-- ---- places

-- a place tells whose it is
pub of_place : (r : Rule) → get_or all_rules (rule_place r) rule.Garbled ≡ r
of_place rule.Garbled = refl
of_place rule.Copies = refl
of_place rule.Range = refl
of_place rule.Barred = refl
of_place rule.Unasked = refl
of_place rule.Taken = refl
of_place rule.Renumbered = refl
of_place rule.Nobody = refl
of_place rule.Unranged = refl
of_place rule.Delay = refl
of_place rule.Early = refl
of_place rule.Shared = refl
of_place rule.NotHeld = refl
of_place rule.Grant = refl
of_place rule.Disabled = refl
of_place rule.Anew = refl
of_place rule.Number = refl
of_place rule.Acknowledge = refl
of_place rule.Drift = refl

pub same_place : (r other : Rule) → rule_place r ≡ rule_place other → r ≡ other
same_place r other same = sym (of_place r) ∙ ap (λ (n : ℕ). get_or all_rules n rule.Garbled) same ∙ of_place other

pub below : (r : Rule) → rule_place r < 19
below rule.Garbled = omega arith
below rule.Copies = omega arith
below rule.Range = omega arith
below rule.Barred = omega arith
below rule.Unasked = omega arith
below rule.Taken = omega arith
below rule.Renumbered = omega arith
below rule.Nobody = omega arith
below rule.Unranged = omega arith
below rule.Delay = omega arith
below rule.Early = omega arith
below rule.Shared = omega arith
below rule.NotHeld = omega arith
below rule.Grant = omega arith
below rule.Disabled = omega arith
below rule.Anew = omega arith
below rule.Number = omega arith
below rule.Acknowledge = omega arith
below rule.Drift = omega arith

-- each rule is in the set of all, and none in the set of none
in_each : (is_in : Bool) (r : Rule) → contains (each_rule is_in) r ≡ is_in
in_each is_in r = get_or-replicate 19 (rule_place r) is_in false (below r)

both : (is_in among : Bool) → (if among then is_in else is_in) ≡ is_in
both is_in true = refl
both is_in false = refl

-- ---- a name

-- a rule is as it is put in or taken out, if it is among the names, and else as it was
abbrev pub Goes : Bool → RuleSet → List Text → RuleSet → Type 0
Goes is_in old names new = (r : Rule) → contains new r ≡ (if is_among names r then is_in else contains old r)

-- the rule of the name itself
own_goes : (is_in : Bool) (old : RuleSet) (name : Text) (own r : Rule) → length old.places ≡ 19 → rule_named name ≡ Some own
    → bytes_eq name (rule_name r) ≡ true → contains (with_rule is_in old own) r ≡ is_in
own_goes is_in old name own r long known same =
    let spelled : name ≡ rule_name r = (bytes_eq-Decides name (rule_name r)).0 same in
    let is : own ≡ r = cc (known, (read_back name r).1 spelled) in
    ap (λ (n : ℕ). get_or (with_rule is_in old own).places n false) (ap rule_place (sym is))
    ∙ get_or-set_same old.places (rule_place own) is_in false (omega (arith, below own, long))

-- another one
other_goes : (is_in : Bool) (old : RuleSet) (name : Text) (own r : Rule) → rule_named name ≡ Some own → bytes_eq name (rule_name r) ≡ false
    → contains (with_rule is_in old own) r ≡ contains old r
other_goes is_in old name own r known other =
    get_or-set_other old.places (rule_place own) (rule_place r) is_in false
    (λ same.
    let is : own ≡ r = sym (same_place r own same) in
    let spelled : name ≡ rule_name r = (read_back name own).0 known ∙ ap rule_name is in
    false≢true (sym other ∙ (bytes_eq-Decides name (rule_name r)).1 spelled))

-- the rule of a name is set, and the names behind it are
one_goes : (is_in : Bool) (old : RuleSet) (name : Text) (names : List Text) (own : Rule) (new : RuleSet) → length old.places ≡ 19 → rule_named name ≡ Some own
    → Goes is_in (with_rule is_in old own) names new → Goes is_in old (name ∷ names) new
one_goes is_in old name names own new long known others r =
    others r ∙ elim (cases_Bool (bytes_eq name (rule_name r))) [
      | inl same ↦ rw (same, own_goes is_in old name own r long known same) (both is_in (is_among names r))
      | inr other ↦ rw (other, other_goes is_in old name own r known other) refl
    ]

-- ---- names

-- behind names that were all known, rules are so, and there are as many places
pub record Named (is_in : Bool) (old : RuleSet) (names : List Text) (new : RuleSet) : Type 0 where
  pub goes : Goes is_in old names new
  pub known : first_unknown names ≡ None
  pub long : length new.places ≡ 19

-- the first of names is known
known_first : (name : Text) (names : List Text) (own : Rule) → rule_named name ≡ Some own → first_unknown (name ∷ names) ≡ first_unknown names
known_first name names own is = rw is refl

pub all_named : (is_in : Bool) (old : RuleSet) (names : List Text) (new : RuleSet) → length old.places ≡ 19 → names_set is_in old names ≡ Ok new
    → Named is_in old names new
all_named is_in old [] new long done =
    let same : old ≡ new = cc in
    record { goes = λ r. ap (λ (s : RuleSet). contains s r) (sym same); known = refl; long = ap (λ (s : RuleSet). length s.places) (sym same) ∙ long }
all_named is_in old (name ∷ names) new long done =
    let go : (found : Option Rule) → rule_named name ≡ found → Named is_in old (name ∷ names) new = λ found. elim found as (λ (f : Option Rule). rule_named name ≡ f → Named is_in old (name ∷ names) new) [
      | None ↦ λ none. absurd (cc (sym (unnamed is_in old name names (sym none)) ∙ done))
      | Some own ↦ λ is.
          let rest = all_named is_in (with_rule is_in old own) names new (length-set old.places (rule_place own) is_in ∙ long) (sym (named is_in old name names own (sym is)) ∙ done) in
          record { goes = one_goes is_in old name names own new long is rest.goes; known = known_first name names own is ∙ rest.known; long = rest.long }
    ] in
    go (rule_named name) refl

-- a name that is given back is the first that no rule has
pub first_wrong : (is_in : Bool) (old : RuleSet) (names : List Text) (wrong : Text) → names_set is_in old names ≡ Err wrong → first_unknown names ≡ Some wrong
first_wrong is_in old [] wrong done = absurd (cc (done))
first_wrong is_in old (name ∷ names) wrong done =
    let go : (found : Option Rule) → rule_named name ≡ found → first_unknown (name ∷ names) ≡ Some wrong = λ found. elim found as (λ (f : Option Rule). rule_named name ≡ f → first_unknown (name ∷ names) ≡ Some wrong) [
      | None ↦ λ none.
          let same : name ≡ wrong = cc (sym (unnamed is_in old name names (sym none)) ∙ done) in
          rw none (ap (λ (t : Text). Some t) same)
      | Some own ↦ λ is. known_first name names own is ∙ first_wrong is_in (with_rule is_in old own) names wrong (sym (named is_in old name names own (sym is)) ∙ done)
    ] in
    go (rule_named name) refl

-- ---- names and then others

pub wrong_before : (names others : List Text) (wrong : Text) → first_unknown names ≡ Some wrong → first_unknown (names ++ others) ≡ Some wrong
wrong_before [] others wrong found = absurd (cc found)
wrong_before (name ∷ names) others wrong found =
    elim (cases_Bool (is_unknown name)) [
      | inl unknown ↦ rw unknown (rw unknown at found)
      | inr known ↦ rw known (wrong_before names others wrong (rw known at found))
    ]

pub known_before : (names others : List Text) → first_unknown names ≡ None → first_unknown (names ++ others) ≡ first_unknown others
known_before [] others all = refl
known_before (name ∷ names) others all =
    elim (cases_Bool (is_unknown name)) [
      | inl unknown ↦ absurd (cc (rw unknown at all))
      | inr known ↦ rw known (known_before names others (rw known at all))
    ]

-- ---- the rules that are told

-- what is known where the rules of `only` are in
pub record Only (only : Option (List Text)) (set : RuleSet) : Type 0 where
  pub goes : (r : Rule) → contains set r ≡ is_only only r
  pub known : first_unknown (names_given only) ≡ None
  pub long : length set.places ≡ 19

whether : (b : Bool) → (if b then true else false) ≡ b
whether true = refl
whether false = refl

only_in : (only : Option (List Text)) (set : RuleSet) → only_rules only ≡ Ok set → Only only set
only_in None set done =
    let same : each_rule true ≡ set = cc in
    record { goes = λ r. ap (λ (s : RuleSet). contains s r) (sym same) ∙ in_each true r; known = refl; long = ap (λ (s : RuleSet). length s.places) (sym same) }
only_in (Some lists) set done =
    let all = all_named true (each_rule false) (names_in lists) set refl done in
    record {
      goes = λ r. all.goes r ∙ ap (λ (b : Bool). if is_among (names_in lists) r then true else b) (in_each false r) ∙ whether (is_among (names_in lists) r);
      known = all.known;
      long = all.long;
    }

pub only_wrong : (only : Option (List Text)) (wrong : Text) → only_rules only ≡ Err wrong → first_unknown (names_given only) ≡ Some wrong
only_wrong None wrong done = absurd (cc done)
only_wrong (Some lists) wrong done = first_wrong true (each_rule false) (names_in lists) wrong done

and_not : (out in_first : Bool) → (if out then false else in_first) ≡ (in_first && not out)
and_not true true = refl
and_not true false = refl
and_not false true = refl
and_not false false = refl

-- the rules of `without` were taken out of those
pub taken_out : (only without : Option (List Text)) (first set : RuleSet) → only_rules only ≡ Ok first → names_set false first (names_given without) ≡ Ok set
    → (unknown_name only without ≡ None) × ((r : Rule) → contains set r ≡ is_chosen only without r)
taken_out only without first set only_done done =
    let some = only_in only first only_done in
    let all = all_named false first (names_given without) set some.long done in (
      known_before (names_given only) (names_given without) some.known ∙ all.known,
      λ r. all.goes r ∙ ap (λ (b : Bool). if is_among (names_given without) r then false else b) (some.goes r)
          ∙ and_not (is_among (names_given without) r) (is_only only r),
    )

-- a name of `only` is no rule's
pub wrong_only : (only without : Option (List Text)) (wrong : Text) → only_rules only ≡ Err wrong → unknown_name only without ≡ Some wrong
wrong_only only without wrong done = wrong_before (names_given only) (names_given without) wrong (only_wrong only wrong done)

-- or one of `without`
pub wrong_without : (only without : Option (List Text)) (first : RuleSet) (wrong : Text) → only_rules only ≡ Ok first
    → names_set false first (names_given without) ≡ Err wrong → unknown_name only without ≡ Some wrong
wrong_without only without first wrong only_done done =
    known_before (names_given only) (names_given without) (only_in only first only_done).known ∙ first_wrong false first (names_given without) wrong done
