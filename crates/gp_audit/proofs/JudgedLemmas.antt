-- Which rules are in a set behind something that was heard, and that each of which a finding is told is.
use Rattle.std.proofs.Common.{◌≡◌, ◌==◌, ◌⊎◌, ◌&&◌, ◌||◌, if◌then◌else◌, not, ℕ, Bool, true, false, List, [], ◌∷◌, Option, None, Some, filter, length, refl, sym, ap, ◌∙◌, inl, inr, arith, slice_set}
use Rattle.std.specs.Prelude.{slice_index_or}
use Rattle.std.specs.List.{list_all, list_any}
use Rattle.std.proofs.lemmas.Bool.{cases_Bool, false≢true}
use Rattle.std.proofs.lemmas.Bool.Decides.{Decides-eqb}
use Rattle.std.proofs.lemmas.List.{get_or-set_same, get_or-set_other, length-set, set-get_or}
use Rattle.gp_ploam.specs.declared.message.Down.{Down}
use Rattle.gp_ploam.specs.declared.message.Down.TheVariants as down
use Rattle.gp_ploam.specs.declared.message.Up.{Up}
use Rattle.gp_ranging.specs.declared.grant.Grant.{Grant}
use Rattle.gp_ranging.specs.declared.grant.Grant.TheVariants as grants
use Rattle.gp_observer.specs.declared.rule.Rule.{Rule}
use Rattle.gp_observer.specs.declared.rule.Rule.TheVariants as rule
use Rattle.gp_observer.specs.Heard.{Heard, HeardDown, HeardUp, HeardGrant, breaks, is_terminals}
use Rattle.gp_observer.specs.Judged.{answer_judges, copy_judges, grant_judges, judges, judges_garbled, message_judges}
use Rattle.gp_observer.specs.Watch.{Watch, is_new}
use Rattle.gp_observer.proofs.Judged.{heard_judged}
use Rattle.gp_finding.specs.Names.{rules as all_rules}
use Rattle.gp_audit.specs.declared.rule_set.RuleSet.{RuleSet}
use Rattle.gp_audit.specs.declared.options.FindingChoice.{FindingChoice}
use Rattle.gp_audit.specs.Judging.{AreWhole, EitherJudged, JustTheJudged, JustTheJudgedJoin, RulesHaveSides, code_rules, down_rules, grant_rules, joined_by, judged_after, judged_on_both, judged_with, of_both, rules_of, unit_rules, was_judged}
use Rattle.gp_audit.specs.declared.judged.Judged.{Judged}
use Rattle.gp_audit.specs.RuleSet.{contains, is_side_told, is_told, rule_place, with_rule}
use Rattle.gp_audit.proofs.ChosenLemmas.{below, same_place}

-- ---- truth values

or_false : (b : Bool) → b ≡ (b || false)
or_false true = refl
or_false false = refl

or_true : (b : Bool) → true ≡ (b || true)
or_true true = refl
or_true false = refl

and_false : (b : Bool) → (b && false) ≡ false
and_false true = refl
and_false false = refl

or_or : (a b c : Bool) → ((a || b) || c) ≡ (a || (b || c))
or_or true b c = refl
or_or false b c = refl

-- ---- one rule

-- a rule that is in a set is put in, or isn't: the set stays as it is
pub stays_in : (b : Bool) (set : RuleSet) (r : Rule) → contains set r ≡ true → set ≡ (if b then with_rule true set r else set)
stays_in true set r within =
    λ i. record { places = (sym (ap (λ (b : Bool). slice_set set.places (rule_place r) b) (sym within) ∙ set-get_or set.places (rule_place r) false)) i }
stays_in false set r within = refl

abbrev is : Rule → Rule → Bool
is r own = rule_place own == rule_place r

abbrev joined : Bool → RuleSet → Rule → RuleSet
joined passes set own = if passes then with_rule true set own else set

stays_long : (b : Bool) (set : RuleSet) (own : Rule) → length set.places ≡ 19 → length (joined b set own).places ≡ 19
stays_long true set own long = length-set set.places (rule_place own) true ∙ long
stays_long false set own long = long

-- a rule is in where it was, or is the one that passes
one_joins : (b : Bool) (set : RuleSet) (own r : Rule) → length set.places ≡ 19
    → contains (joined b set own) r ≡ (contains set r || (is r own && b))
one_joins false set own r long = or_false (contains set r) ∙ ap (λ (b : Bool). contains set r || b) (sym (and_false (is r own)))
one_joins true set own r long =
    elim (cases_Bool (is r own)) [
      | inl same ↦
          let place : rule_place own ≡ rule_place r = (Decides-eqb (rule_place own) (rule_place r)).0 same in
          (ap (λ (n : ℕ). slice_index_or (with_rule true set own).places n false) (sym place)
          ∙ get_or-set_same set.places (rule_place own) true false (omega (arith, below own, long)))
          ∙ or_true (contains set r) ∙ ap (λ (b : Bool). contains set r || (b && true)) (sym same)
      | inr other ↦
          get_or-set_other set.places (rule_place own) (rule_place r) true false
          (λ same. false≢true (sym other ∙ (Decides-eqb (rule_place own) (rule_place r)).1 (sym same)))
          ∙ or_false (contains set r) ∙ ap (λ (b : Bool). contains set r || (b && true)) (sym other)
    ]

-- ---- many rules

abbrev is_passed : (Rule → Bool) → Rule → Rule → Bool
is_passed passes r own = is r own && passes own

-- a rule is in where it was, or is one of the list that passes
all_join : (passes : Rule → Bool) (these : List Rule) (set : RuleSet) (r : Rule) → length set.places ≡ 19
    → contains (joined_by passes these set) r ≡ (contains set r || list_any (is_passed passes r) these)
all_join passes [] set r long = or_false (contains set r)
all_join passes (own ∷ these) set r long =
    all_join passes these (joined (passes own) set own) r (stays_long (passes own) set own long)
    ∙ ap (λ (b : Bool). b || list_any (is_passed passes r) these) (one_joins (passes own) set own r long)
    ∙ or_or (contains set r) (is r own && passes own) (list_any (is_passed passes r) these)

-- one that doesn't pass
none_passes : (passes : Rule → Bool) (r : Rule) (these : List Rule) → passes r ≡ false → list_any (is_passed passes r) these ≡ false
none_passes passes r [] fails = refl
none_passes passes r (own ∷ these) fails =
    elim (cases_Bool (is r own)) [
      | inl same ↦
          let own_fails : passes own ≡ false = ap passes (same_place own r ((Decides-eqb (rule_place own) (rule_place r)).0 same)) ∙ fails in
          ap (λ (b : Bool). (is r own && b) || list_any (is_passed passes r) these) own_fails
          ∙ ap (λ (b : Bool). b || list_any (is_passed passes r) these) (and_false (is r own))
          ∙ none_passes passes r these fails
      | inr other ↦ ap (λ (b : Bool). (b && passes own) || list_any (is_passed passes r) these) other ∙ none_passes passes r these fails
    ]

-- one of the list that does
some_passes : (passes : Rule → Bool) (r : Rule) (these : List Rule) → passes r ≡ true → list_any (is r) these ≡ true
    → list_any (is_passed passes r) these ≡ true
some_passes passes r [] does among = among
some_passes passes r (own ∷ these) does among =
    elim (cases_Bool (is r own)) [
      | inl same ↦
          let own_does : passes own ≡ true = ap passes (same_place own r ((Decides-eqb (rule_place own) (rule_place r)).0 same)) ∙ does in
          ap (λ (b : Bool). (b && passes own) || list_any (is_passed passes r) these) same
          ∙ ap (λ (b : Bool). b || list_any (is_passed passes r) these) own_does
      | inr other ↦
          ap (λ (b : Bool). (b && passes own) || list_any (is_passed passes r) these) other
          ∙ some_passes passes r these does (ap (λ (b : Bool). b || list_any (is r) these) (sym other) ∙ among)
    ]

-- of the list just those that pass
passed_of : (passes : Rule → Bool) (r : Rule) (these : List Rule) → list_any (is r) these ≡ true → list_any (is_passed passes r) these ≡ passes r
passed_of passes r these among =
    elim (cases_Bool (passes r)) [
      | inl does ↦ some_passes passes r these does among ∙ sym does
      | inr fails ↦ none_passes passes r these fails ∙ sym fails
    ]

-- ---- the rules that may be judged

-- a rule is one of these, or isn't judged
abbrev May : List Rule → Rule → Bool → Type 0
May these r is_judged = (list_any (is r) these ≡ true) ⊎ (is_judged ≡ false)

of_code : (r : Rule) → May code_rules r (judges_garbled r)
of_code rule.Garbled = inl refl
of_code rule.Copies = inr refl
of_code rule.Range = inr refl
of_code rule.Barred = inr refl
of_code rule.Unasked = inr refl
of_code rule.Taken = inr refl
of_code rule.Renumbered = inr refl
of_code rule.Nobody = inr refl
of_code rule.Unranged = inr refl
of_code rule.Delay = inr refl
of_code rule.Early = inr refl
of_code rule.Shared = inr refl
of_code rule.NotHeld = inr refl
of_code rule.Grant = inr refl
of_code rule.Disabled = inr refl
of_code rule.Anew = inr refl
of_code rule.Number = inr refl
of_code rule.Acknowledge = inr refl
of_code rule.Drift = inr refl

of_message : (watch : Watch) (message : Down) (r : Rule) → (list_any (is r) down_rules ≡ true) ⊎ ((judges_garbled r ≡ false) × (message_judges watch message r ≡ false))
of_message _ _ rule.Garbled = inl refl
of_message _ _ rule.Copies = inl refl
of_message _ _ rule.Range = inl refl
of_message _ _ rule.Barred = inl refl
of_message _ _ rule.Unasked = inl refl
of_message _ _ rule.Taken = inl refl
of_message _ _ rule.Renumbered = inl refl
of_message _ _ rule.Nobody = inl refl
of_message _ _ rule.Unranged = inl refl
of_message _ _ rule.Delay = inl refl
of_message _ _ rule.Early = inl refl
of_message _ _ rule.Shared = inl refl
of_message _ _ rule.NotHeld = inl refl
of_message _ _ rule.Grant = inr (refl, refl)
of_message _ _ rule.Disabled = inr (refl, refl)
of_message _ _ rule.Anew = inr (refl, refl)
of_message _ _ rule.Number = inr (refl, refl)
of_message _ _ rule.Acknowledge = inr (refl, refl)
of_message _ _ rule.Drift = inr (refl, refl)

of_answer : (watch : Watch) (message : Up) (delay : Option ℕ) (r : Rule) → May unit_rules r (answer_judges watch message delay r)
of_answer _ _ _ rule.Garbled = inl refl
of_answer _ _ _ rule.Copies = inr refl
of_answer _ _ _ rule.Range = inr refl
of_answer _ _ _ rule.Barred = inr refl
of_answer _ _ _ rule.Unasked = inr refl
of_answer _ _ _ rule.Taken = inr refl
of_answer _ _ _ rule.Renumbered = inr refl
of_answer _ _ _ rule.Nobody = inr refl
of_answer _ _ _ rule.Unranged = inr refl
of_answer _ _ _ rule.Delay = inr refl
of_answer _ _ _ rule.Early = inr refl
of_answer _ _ _ rule.Shared = inr refl
of_answer _ _ _ rule.NotHeld = inr refl
of_answer _ _ _ rule.Grant = inr refl
of_answer _ _ _ rule.Disabled = inl refl
of_answer _ _ _ rule.Anew = inl refl
of_answer _ _ _ rule.Number = inl refl
of_answer _ _ _ rule.Acknowledge = inl refl
of_answer _ _ _ rule.Drift = inl refl

of_grant : (watch : Watch) (grant : Grant) (r : Rule) → May grant_rules r (grant_judges watch grant r)
of_grant _ grants.Search _ = inr refl
of_grant _ (grants.Range _) rule.Garbled = inr refl
of_grant _ (grants.Range _) rule.Copies = inr refl
of_grant _ (grants.Range _) rule.Range = inr refl
of_grant _ (grants.Range _) rule.Barred = inr refl
of_grant _ (grants.Range _) rule.Unasked = inr refl
of_grant _ (grants.Range _) rule.Taken = inr refl
of_grant _ (grants.Range _) rule.Renumbered = inr refl
of_grant _ (grants.Range _) rule.Nobody = inr refl
of_grant _ (grants.Range _) rule.Unranged = inr refl
of_grant _ (grants.Range _) rule.Delay = inr refl
of_grant _ (grants.Range _) rule.Early = inr refl
of_grant _ (grants.Range _) rule.Shared = inr refl
of_grant _ (grants.Range _) rule.NotHeld = inr refl
of_grant _ (grants.Range _) rule.Grant = inl refl
of_grant _ (grants.Range _) rule.Disabled = inr refl
of_grant _ (grants.Range _) rule.Anew = inr refl
of_grant _ (grants.Range _) rule.Number = inr refl
of_grant _ (grants.Range _) rule.Acknowledge = inr refl
of_grant _ (grants.Range _) rule.Drift = inr refl
of_grant _ (grants.Poll _) rule.Garbled = inr refl
of_grant _ (grants.Poll _) rule.Copies = inr refl
of_grant _ (grants.Poll _) rule.Range = inr refl
of_grant _ (grants.Poll _) rule.Barred = inr refl
of_grant _ (grants.Poll _) rule.Unasked = inr refl
of_grant _ (grants.Poll _) rule.Taken = inr refl
of_grant _ (grants.Poll _) rule.Renumbered = inr refl
of_grant _ (grants.Poll _) rule.Nobody = inr refl
of_grant _ (grants.Poll _) rule.Unranged = inr refl
of_grant _ (grants.Poll _) rule.Delay = inr refl
of_grant _ (grants.Poll _) rule.Early = inr refl
of_grant _ (grants.Poll _) rule.Shared = inr refl
of_grant _ (grants.Poll _) rule.NotHeld = inr refl
of_grant _ (grants.Poll _) rule.Grant = inl refl
of_grant _ (grants.Poll _) rule.Disabled = inr refl
of_grant _ (grants.Poll _) rule.Anew = inr refl
of_grant _ (grants.Poll _) rule.Number = inr refl
of_grant _ (grants.Poll _) rule.Acknowledge = inr refl
of_grant _ (grants.Poll _) rule.Drift = inr refl

-- a copy, by whether it tells its message
by_copy : (is_told garbled judged : Bool) (r : Rule) → (list_any (is r) down_rules ≡ true) ⊎ ((garbled ≡ false) × (judged ≡ false)) → May code_rules r garbled
    → May (if is_told then down_rules else code_rules) r (garbled || (is_told && judged))
by_copy true garbled judged r (inl among) code = inl among
by_copy true garbled judged r (inr none) code = inr (ap (λ (b : Bool). b || judged) none.0 ∙ none.1)
by_copy false garbled judged r message (inl among) = inl among
by_copy false garbled judged r message (inr none) = inr (ap (λ (b : Bool). b || false) none)

of_copy : (watch : Watch) (message : Down) (r : Rule)
    → May (if is_new watch message then down_rules else code_rules) r (judges_garbled r || copy_judges watch message r)
of_copy watch message r = by_copy (is_new watch message) (judges_garbled r) (message_judges watch message r) r (of_message watch message r) (of_code r)

of_heard : (watch : Watch) (heard : Heard) (r : Rule) → May (rules_of watch heard) r (judges watch heard r)
of_heard watch (HeardDown None) r = of_code r
of_heard watch (HeardDown (Some down.NoMessage)) r = of_code r
of_heard watch (HeardDown (Some (down.UpstreamOverhead burst))) r = of_copy watch (down.UpstreamOverhead burst) r
of_heard watch (HeardDown (Some (down.AssignOnu onu serial))) r = of_copy watch (down.AssignOnu onu serial) r
of_heard watch (HeardDown (Some (down.RangingTime onu eqd))) r = of_copy watch (down.RangingTime onu eqd) r
of_heard watch (HeardDown (Some (down.Deactivate onu))) r = of_copy watch (down.Deactivate onu) r
of_heard watch (HeardDown (Some (down.DisableSerial serial))) r = of_copy watch (down.DisableSerial serial) r
of_heard watch (HeardDown (Some (down.EnableSerial serial))) r = of_copy watch (down.EnableSerial serial) r
of_heard watch (HeardDown (Some down.EnableAll)) r = of_copy watch down.EnableAll r
of_heard watch (HeardDown (Some (down.AssignAlloc onu alloc keep))) r = of_copy watch (down.AssignAlloc onu alloc keep) r
of_heard watch (HeardDown (Some (down.Popup onu))) r = of_copy watch (down.Popup onu) r
of_heard watch (HeardDown (Some (down.Other id octet1 body))) r = of_copy watch (down.Other id octet1 body) r
of_heard watch (HeardUp None delay) r = of_code r
of_heard watch (HeardUp (Some message) delay) r = of_answer watch message delay r
of_heard watch (HeardGrant grant) r = of_grant watch grant r

-- ---- the laws

abbrev passes_in : FindingChoice → Watch → Heard → Rule → Bool
passes_in told watch heard r = contains told.rules r && judges watch heard r

-- of the rules that may be judged, those that are told and are
passed_in : (told : FindingChoice) (watch : Watch) (heard : Heard) (r : Rule)
    → list_any (is_passed (passes_in told watch heard) r) (rules_of watch heard) ≡ passes_in told watch heard r
passed_in told watch heard r =
    elim (of_heard watch heard r) [
      | inl among ↦ passed_of (passes_in told watch heard) r (rules_of watch heard) among
      | inr none ↦
          let fails : passes_in told watch heard r ≡ false = ap (λ (b : Bool). contains told.rules r && b) none ∙ and_false (contains told.rules r) in
          none_passes (passes_in told watch heard) r (rules_of watch heard) fails ∙ sym fails
    ]

by_side : (side : Bool) (told : FindingChoice) (watch : Watch) (heard : Heard) (set : RuleSet) (r : Rule) → length set.places ≡ 19
    → contains (if side then joined_by (passes_in told watch heard) (rules_of watch heard) set else set) r
    ≡ (contains set r || (side && contains told.rules r && judges watch heard r))
by_side true told watch heard set r long =
    all_join (passes_in told watch heard) (rules_of watch heard) set r long
    ∙ ap (λ (b : Bool). contains set r || b) (passed_in told watch heard r)
by_side false told watch heard set r long = or_false (contains set r)

-- of a side, or not
of_side : (here : Bool) (told : FindingChoice) (watch : Watch) (heard : Heard) (set : RuleSet) (r : Rule) → length set.places ≡ 19
    → contains (if here then judged_with told watch heard set else set) r
    ≡ (contains set r || (here && is_told told heard r && judges watch heard r))
of_side true told watch heard set r long = by_side (is_side_told told heard) told watch heard set r long
of_side false told watch heard set r long = or_false (contains set r)

of_other : (here : Bool) (told : FindingChoice) (watch : Watch) (heard : Heard) (set : RuleSet) (r : Rule) → length set.places ≡ 19
    → contains (if here then set else judged_with told watch heard set) r
    ≡ (contains set r || (not here && is_told told heard r && judges watch heard r))
of_other true told watch heard set r long = or_false (contains set r)
of_other false told watch heard set r long = by_side (is_side_told told heard) told watch heard set r long

-- ---- places

all_long : (passes : Rule → Bool) (these : List Rule) (set : RuleSet) → length set.places ≡ 19 → length (joined_by passes these set).places ≡ 19
all_long passes [] set long = long
all_long passes (own ∷ these) set long = all_long passes these (joined (passes own) set own) (stays_long (passes own) set own long)

if_long : (here : Bool) (one other : RuleSet) → length one.places ≡ 19 → length other.places ≡ 19 → length (if here then one else other).places ≡ 19
if_long true one other one_long other_long = one_long
if_long false one other one_long other_long = other_long

with_long : (told : FindingChoice) (watch : Watch) (heard : Heard) (set : RuleSet) → length set.places ≡ 19 → length (judged_with told watch heard set).places ≡ 19
with_long told watch heard set long =
    if_long (is_side_told told heard) (joined_by (passes_in told watch heard) (rules_of watch heard) set) set
    (all_long (passes_in told watch heard) (rules_of watch heard) set long) long

-- ---- what was judged

first : (b c : Bool) → (b && c) ≡ true → b ≡ true
first true c h = refl
first false c h = absurd (false≢true h)

second : (b c : Bool) → (b && c) ≡ true → c ≡ true
second true c h = h
second false c h = absurd (false≢true h)

-- of rules that are all judged, those that are told are in
told_in : (is_in is_told_of judged before : Rule → Bool) (broken : List Rule) → ((r : Rule) → is_in r ≡ (before r || (is_told_of r && judged r)))
    → list_all judged broken ≡ true → list_all is_in (filter is_told_of broken) ≡ true
told_in is_in is_told_of judged before [] goes all = refl
told_in is_in is_told_of judged before (r ∷ broken) goes all =
    let rest = told_in is_in is_told_of judged before broken goes (second (judged r) (list_all judged broken) all) in
    elim (cases_Bool (is_told_of r)) [
      | inl told ↦
          let there : is_in r ≡ true =
          goes r ∙ ap (λ (b : Bool). before r || (b && judged r)) told
          ∙ ap (λ (b : Bool). before r || b) (first (judged r) (list_all judged broken) all) ∙ sym (or_true (before r)) in
          rw told (ap (λ (b : Bool). b && list_all is_in (filter is_told_of broken)) there ∙ rest)
      | inr other ↦ rw other rest
    ]

-- what joins one of two sets joins them together
joins_either : (here terminal units told judged : Bool)
    → ((terminal || (here && told && judged)) || (units || (not here && told && judged))) ≡ ((terminal || units) || (told && judged))
joins_either true true units told judged = refl
joins_either false true units told judged = refl
joins_either true false true told judged = sym (or_true (told && judged))
joins_either true false false told judged = sym (or_false (told && judged))
joins_either false false true told judged = refl
joins_either false false false told judged = refl

after_heard : (told : FindingChoice) (watch : Watch) (heard : Heard) (before : Judged) → AreWhole before
    → JustTheJudged told watch heard before (judged_after told watch heard before)
after_heard told watch heard before whole =
    let of_terminal = λ (r : Rule). of_side (is_terminals heard) told watch heard before.terminal r whole.0 in
    let of_units = λ (r : Rule). of_other (is_terminals heard) told watch heard before.units r whole.1 in
    record {
      whole = (
        if_long (is_terminals heard) (judged_with told watch heard before.terminal) before.terminal (with_long told watch heard before.terminal whole.0) whole.0,
        if_long (is_terminals heard) before.units (judged_with told watch heard before.units) whole.1 (with_long told watch heard before.units whole.1),
      );
      terminal = of_terminal;
      units = of_units;
      found = λ settings. told_in (was_judged (judged_after told watch heard before)) (is_told told heard) (judges watch heard) (was_judged before) (breaks settings watch heard)
          (λ r.
          (λ i. of_terminal r i || of_units r i)
          ∙ joins_either (is_terminals heard) (contains before.terminal r) (contains before.units r) (is_told told heard r) (judges watch heard r))
          (heard_judged settings watch heard);
    }

pub judged_join : JustTheJudgedJoin
judged_join = ((refl, refl), after_heard)

-- ---- of two ports

of_all : (r : Rule) → list_any (is r) all_rules ≡ true
of_all rule.Garbled = refl
of_all rule.Copies = refl
of_all rule.Range = refl
of_all rule.Barred = refl
of_all rule.Unasked = refl
of_all rule.Taken = refl
of_all rule.Renumbered = refl
of_all rule.Nobody = refl
of_all rule.Unranged = refl
of_all rule.Delay = refl
of_all rule.Early = refl
of_all rule.Shared = refl
of_all rule.NotHeld = refl
of_all rule.Grant = refl
of_all rule.Disabled = refl
of_all rule.Anew = refl
of_all rule.Number = refl
of_all rule.Acknowledge = refl
of_all rule.Drift = refl

in_both : (one other : RuleSet) (r : Rule) → length one.places ≡ 19 → contains (of_both one other) r ≡ (contains one r || contains other r)
in_both one other r long =
    all_join (contains other) all_rules one r long ∙ ap (λ (b : Bool). contains one r || b) (passed_of (contains other) r all_rules (of_all r))

pub either_judged : EitherJudged
unfolding judged_on_both
either_judged one other whole =
    record {
      whole = (all_long (contains other.terminal) all_rules one.terminal whole.0, all_long (contains other.units) all_rules one.units whole.1);
      terminal = λ r. in_both one.terminal other.terminal r whole.0;
      units = λ r. in_both one.units other.units r whole.1;
    }

pub have_sides : RulesHaveSides
have_sides = (refl, refl)
