-- What is told of a choice that leaves no rule.
use Rattle.std.proofs.Common.{◌≡◌, ◌∙◌, Bool, true, false, not, ◌&&◌, ◌||◌, cond, ◌==◌, List, [], ◌∷◌, ◌++◌, Option, None, Some, ℕ, filter, map, refl, sym, ap}
use Rattle.std.specs.List.{list_any}
use Rattle.std.proofs.lemmas.List.Folds.{list_any-append}
use Rattle.std.proofs.lemmas.Bool.{false≢true}
use Rattle.gp_ploam.specs.declared.message.Down.{Down}
use Rattle.gp_ploam.specs.declared.message.Down.TheVariants.{AssignOnu, NoMessage}
use Rattle.gp_ploam.specs.declared.message.Up.{Up}
use Rattle.gp_observer.specs.declared.rule.Rule.{Rule}
use Rattle.gp_observer.specs.declared.rule.Rule.TheVariants as rule
use Rattle.gp_observer.specs.Heard.{HeardDown, HeardUp, HeardGrant, answer_rules, broken_of, copy_breaks, down_breaks, message_rules, up_breaks}
use Rattle.gp_observer.specs.Observer.{some_passes}
use Rattle.gp_observer.specs.Rules.{Settings, breaks_barred, breaks_copies, breaks_delay, breaks_early, breaks_grant, breaks_nobody, breaks_not_held, breaks_range, breaks_renumbered, breaks_shared, breaks_taken, breaks_unasked, breaks_unranged, is_judged}
use Rattle.gp_observer.specs.Watch.{Watch, asks_left, is_new}
use Rattle.gp_audit.specs.RuleSet.{contains, is_told}
use Rattle.gp_audit.specs.declared.options.FindingChoice.{FindingChoice}
use Rattle.gp_finding.specs.Names.{rules}
use Rattle.gp_audit.specs.Judging.{is_of_terminal, is_of_units, unit_rules}
use Rattle.gp_options.specs.Sides.{NoneTellsNothing, SidesAreJudged, is_of_whole, may_be_judged, tells_some}

or_first : (a b : Bool) → a || b ≡ false → a ≡ false
or_first false b none = refl
or_first true b none = none

or_second : (a b : Bool) → a || b ≡ false → b ≡ false
or_second false b none = none
or_second true b none = absurd (false≢true (sym none))

-- of the rules that are kept none is told, where for each of them that follows from what none of all passes
kept_first : (kept : Bool) (r : Rule) (told : Rule → Bool) (these : List Rule) → (kept ≡ true → told r ≡ false) → list_any told these ≡ false
    → list_any told (cond kept (r ∷ these) these) ≡ false
kept_first true r told these first rest = ap (λ (b : Bool). b || list_any told these) (first refl) ∙ rest
kept_first false r told these first rest = rest

none_kept : (keep passes told : Rule → Bool) (these : List Rule) → ((r : Rule) → keep r ≡ true → passes r ≡ false → told r ≡ false)
    → list_any passes these ≡ false → list_any told (filter keep these) ≡ false
none_kept keep passes told [] each none = refl
none_kept keep passes told (r ∷ these) each none =
    kept_first (keep r) r told (filter keep these) (λ keeps. each r keeps (or_first (passes r) (list_any passes these) none))
    (none_kept keep passes told these each (or_second (passes r) (list_any passes these) none))

-- of a rule that is judged on the first side, or on the other, wherever a log begins
on_first : (first other this that midway whole : Bool) (told : Bool) → this && not whole ≡ true
    → told && (((first && this) || (other && that)) && not (midway && whole)) ≡ false → first && told ≡ false
on_first false other this that midway whole told is none = refl
on_first true other this that midway whole false is none = refl
on_first true other false that midway whole true is none = absurd (false≢true is)
on_first true other true that midway true true is none = absurd (false≢true is)
on_first true other true that true false true is none = none
on_first true other true that false false true is none = none

on_second : (first other this that midway whole : Bool) (told : Bool) → that && not whole ≡ true
    → told && (((first && this) || (other && that)) && not (midway && whole)) ≡ false → other && told ≡ false
on_second first false this that midway whole told is none = refl
on_second first true this that midway whole false is none = refl
on_second first true this false midway whole true is none = absurd (false≢true is)
on_second first true this true midway true true is none = absurd (false≢true is)
on_second false true this true true false true is none = none
on_second false true this true false false true is none = none
on_second true true false true true false true is none = none
on_second true true false true false false true is none = none
on_second true true true true true false true is none = none
on_second true true true true false false true is none = none

-- of one that is judged on the first side where a log doesn't begin in the middle
on_whole : (first other this that midway whole : Bool) (told : Bool) → this && whole ≡ true
    → told && (((first && this) || (other && that)) && not (midway && whole)) ≡ false → not midway && (first && told) ≡ false
on_whole first other this that true whole told is none = refl
on_whole false other this that false whole told is none = refl
on_whole true other this that false whole false is none = refl
on_whole true other false that false whole true is none = absurd (false≢true is)
on_whole true other true that false false true is none = absurd (false≢true is)
on_whole true other true that false true true is none = none

-- what is broken of rules none of which is both broken and told
none_broken : (told : Rule → Bool) (rules : List (Bool × Rule)) → list_any (λ it. it.0 && told it.1) rules ≡ false → list_any told (broken_of rules) ≡ false
none_broken told [] none = refl
none_broken told ((true, r) ∷ rules) none =
    ap (λ (first : Bool). first || list_any told (broken_of rules)) (or_first (told r) (list_any (λ it. it.0 && told it.1) rules) none)
    ∙ none_broken told rules (or_second (told r) (list_any (λ it. it.0 && told it.1) rules) none)
none_broken told ((false, r) ∷ rules) none = none_broken told rules none

not_both : (broken told : Bool) → told ≡ false → broken && told ≡ false
not_both true told is = is
not_both false told is = refl

none_told : (told : Rule → Bool) (rules : List (Bool × Rule)) → list_any told (map (λ it. it.1) rules) ≡ false → list_any (λ it. it.0 && told it.1) rules ≡ false
none_told told [] none = refl
none_told told ((broken, r) ∷ rules) none =
    ap (λ (first : Bool). first || list_any (λ it. it.0 && told it.1) rules) (not_both broken (told r) (or_first (told r) (list_any told (map (λ it. it.1) rules)) none))
    ∙ none_told told rules (or_second (told r) (list_any told (map (λ it. it.1) rules)) none)

none_if : (told : Rule → Bool) (these : List Rule) (new : Bool) → list_any told these ≡ false → list_any told (cond new these []) ≡ false
none_if told these true none = none
none_if told these false none = refl

-- where a log begins in the middle, nobody gets a number unasked
unasked_midway : (watch : Watch) (message : Down) → watch.midway ≡ true → breaks_unasked watch message ≡ false
unasked_midway watch (AssignOnu onu serial) midway = ap (λ (b : Bool). not b && is_judged watch onu && some_passes (λ asks. asks == 0) (asks_left watch serial)) midway
unasked_midway watch _ midway = refl

unasked_not : (told : Rule → Bool) (watch : Watch) (message : Down) (midway : Bool) → watch.midway ≡ midway → not midway && told rule.Unasked ≡ false
    → breaks_unasked watch message && told rule.Unasked ≡ false
unasked_not told watch message true is none = ap (λ (broken : Bool). broken && told rule.Unasked) (unasked_midway watch message is)
unasked_not told watch message false is none = not_both (breaks_unasked watch message) (told rule.Unasked) none

-- those that are judged of the terminal, wherever a log begins
abbrev terminal_rules : List Rule
terminal_rules =
    rule.Garbled ∷ rule.Copies ∷ rule.Range ∷ rule.Barred ∷ rule.Taken ∷ rule.Renumbered ∷ rule.Nobody ∷ rule.Unranged
    ∷ rule.Delay ∷ rule.Early ∷ rule.Shared ∷ rule.NotHeld ∷ rule.Grant ∷ []

-- of a message down
of_message : (told : Rule → Bool) (settings : Settings) (watch : Watch) (message : Down) → list_any told terminal_rules ≡ false
    → not watch.midway && told rule.Unasked ≡ false
    → list_any (λ it. it.0 && told it.1) (message_rules settings watch message) ≡ false
of_message told settings watch message none unasked =
    let both : Bool × Rule → Bool = λ it. it.0 && told it.1 in
    let front : List (Bool × Rule) = (breaks_copies watch message, rule.Copies) ∷ (breaks_range message, rule.Range) ∷ (breaks_barred watch message, rule.Barred) ∷ [] in
    let rest : List (Bool × Rule) =
    (breaks_taken watch message, rule.Taken) ∷ (breaks_renumbered watch message, rule.Renumbered) ∷ (breaks_nobody watch message, rule.Nobody)
    ∷ (breaks_unranged watch message, rule.Unranged) ∷ (breaks_delay settings watch message, rule.Delay) ∷ (breaks_early watch message, rule.Early)
    ∷ (breaks_shared watch message, rule.Shared) ∷ (breaks_not_held watch message, rule.NotHeld) ∷ [] in
    let names : List (Bool × Rule) → List Rule = map (λ it. it.1) in
    let behind : list_any told (names front ++ (names rest ++ (rule.Grant ∷ []))) ≡ false =
    or_second (told rule.Garbled) (list_any told (names front ++ (names rest ++ (rule.Grant ∷ [])))) none in
    let parts : list_any told (names front) || list_any told (names rest ++ (rule.Grant ∷ [])) ≡ false =
    sym (list_any-append told (names front) (names rest ++ (rule.Grant ∷ []))) ∙ behind in
    let in_front : list_any both front ≡ false = none_told told front (or_first (list_any told (names front)) (list_any told (names rest ++ (rule.Grant ∷ []))) parts) in
    let ends : list_any told (names rest) || list_any told (rule.Grant ∷ []) ≡ false =
    sym (list_any-append told (names rest) (rule.Grant ∷ [])) ∙ or_second (list_any told (names front)) (list_any told (names rest ++ (rule.Grant ∷ []))) parts in
    let in_rest : list_any both rest ≡ false = none_told told rest (or_first (list_any told (names rest)) (list_any told (rule.Grant ∷ [])) ends) in
    let here : both (breaks_unasked watch message, rule.Unasked) ≡ false = unasked_not told watch message watch.midway refl unasked in
    list_any-append both front ((breaks_unasked watch message, rule.Unasked) ∷ rest)
    ∙ ap (λ (first : Bool). first || (both (breaks_unasked watch message, rule.Unasked) || list_any both rest)) in_front
    ∙ ap (λ (first : Bool). first || list_any both rest) here
    ∙ in_rest

by_copy : (told : Rule → Bool) (settings : Settings) (watch : Watch) (message : Down) → list_any told terminal_rules ≡ false
    → not watch.midway && told rule.Unasked ≡ false
    → list_any told (copy_breaks settings watch message) ≡ false
by_copy told settings watch message none unasked =
    let judged : list_any told (broken_of (message_rules settings watch message)) ≡ false =
    none_broken told (message_rules settings watch message) (of_message told settings watch message none unasked) in
    none_if told (broken_of (message_rules settings watch message)) (is_new watch message) judged

by_garbled : (told : Rule → Bool) (others : List Rule) → list_any told (rule.Garbled ∷ others) ≡ false → list_any told (rule.Garbled ∷ []) ≡ false
by_garbled told others none = ap (λ (first : Bool). first || false) (or_first (told rule.Garbled) (list_any told others) none)

abbrev other_rules : List Rule
other_rules =
    rule.Copies ∷ rule.Range ∷ rule.Barred ∷ rule.Taken ∷ rule.Renumbered ∷ rule.Nobody ∷ rule.Unranged ∷ rule.Delay ∷ rule.Early
    ∷ rule.Shared ∷ rule.NotHeld ∷ rule.Grant ∷ []

by_down : (told : Rule → Bool) (settings : Settings) (watch : Watch) (message : Option Down) → list_any told terminal_rules ≡ false
    → not watch.midway && told rule.Unasked ≡ false
    → list_any told (down_breaks settings watch message) ≡ false
by_down told settings watch None none unasked = by_garbled told other_rules none
by_down told settings watch (Some NoMessage) none unasked = refl
by_down told settings watch (Some message) none unasked = by_copy told settings watch message none unasked

-- of one up
by_up : (told : Rule → Bool) (settings : Settings) (watch : Watch) (message : Option Up) (delay : Option ℕ) → list_any told unit_rules ≡ false
    → list_any told (up_breaks settings watch message delay) ≡ false
by_up told settings watch None delay none =
    let others : List Rule = rule.Disabled ∷ rule.Anew ∷ rule.Number ∷ rule.Acknowledge ∷ rule.Drift ∷ [] in
    by_garbled told others none
by_up told settings watch (Some message) delay none =
    let others : List Rule = map (λ (it : Bool × Rule). it.1) (answer_rules settings watch message delay) in
    none_broken told (answer_rules settings watch message delay)
    (none_told told (answer_rules settings watch message delay) (or_second (told rule.Garbled) (list_any told others) none))

-- of a grant
by_grant : (told : Rule → Bool) (broken : Bool) → list_any told terminal_rules ≡ false
    → list_any told (broken_of ((broken, rule.Grant) ∷ [])) ≡ false
by_grant told broken none =
    let others : List Rule =
    rule.Garbled ∷ rule.Copies ∷ rule.Range ∷ rule.Barred ∷ rule.Taken ∷ rule.Renumbered ∷ rule.Nobody ∷ rule.Unranged ∷ rule.Delay ∷ rule.Early
    ∷ rule.Shared ∷ rule.NotHeld ∷ [] in
    none_broken told ((broken, rule.Grant) ∷ []) (none_told told ((broken, rule.Grant) ∷ []) (
    or_second (list_any told others) (list_any told (rule.Grant ∷ [])) (sym (list_any-append told others (rule.Grant ∷ [])) ∙ none)))

-- what a choice leaves is false of each rule: so none is told that is judged of a message down, wherever a log begins, nor
-- where it doesn't begin in the middle
abbrev passes_of : Bool → FindingChoice → Rule → Bool
passes_of midway choice r = contains choice.rules r && may_be_judged midway choice r

of_terminal : (choice : FindingChoice) (midway : Bool) → tells_some midway choice ≡ false
    → (list_any (λ r. choice.terminal && contains choice.rules r) terminal_rules ≡ false) × (not midway && (choice.terminal && contains choice.rules rule.Unasked) ≡ false)
of_terminal choice midway none =
    let wherever : list_any (λ r. choice.terminal && contains choice.rules r) terminal_rules ≡ false =
    none_kept (λ r. is_of_terminal r && not (is_of_whole r)) (passes_of midway choice) (λ r. choice.terminal && contains choice.rules r) rules
    (λ r keeps fails. on_first choice.terminal choice.units (is_of_terminal r) (is_of_units r) midway (is_of_whole r) (contains choice.rules r) keeps fails) none in
    let whole : list_any (λ r. not midway && (choice.terminal && contains choice.rules r)) (rule.Unasked ∷ []) ≡ false =
    none_kept (λ r. is_of_terminal r && is_of_whole r) (passes_of midway choice) (λ r. not midway && (choice.terminal && contains choice.rules r)) rules
    (λ r keeps fails. on_whole choice.terminal choice.units (is_of_terminal r) (is_of_units r) midway (is_of_whole r) (contains choice.rules r) keeps fails) none in
    (wherever, or_first (not midway && (choice.terminal && contains choice.rules rule.Unasked)) false whole)

of_units : (choice : FindingChoice) (midway : Bool) → tells_some midway choice ≡ false
    → list_any (λ r. choice.units && contains choice.rules r) unit_rules ≡ false
of_units choice midway none =
    none_kept (λ r. is_of_units r && not (is_of_whole r)) (passes_of midway choice) (λ r. choice.units && contains choice.rules r) rules
    (λ r keeps fails. on_second choice.terminal choice.units (is_of_terminal r) (is_of_units r) midway (is_of_whole r) (contains choice.rules r) keeps fails) none

pub tells_nothing : NoneTellsNothing
tells_nothing choice settings watch (HeardDown message) none =
    let left = of_terminal choice watch.midway none in
    by_down (is_told choice (HeardDown message)) settings watch message left.0 left.1
tells_nothing choice settings watch (HeardUp message delay) none =
    by_up (is_told choice (HeardUp message delay)) settings watch message delay (of_units choice watch.midway none)
tells_nothing choice settings watch (HeardGrant grant) none =
    by_grant (is_told choice (HeardGrant grant)) (breaks_grant watch grant) (of_terminal choice watch.midway none).0

pub are_judged : SidesAreJudged
are_judged = record {
  terminal = λ settings watch message. refl;
  units = λ settings watch message delay. refl;
}
