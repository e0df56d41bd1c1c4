-- The rules that are told, one after another.
use Rattle.std.specs.Prelude.{filter, if◌then◌else◌}
use Rattle.std.proofs.Common.{◌≡◌, ℕ, ◌+◌, ◌<◌, ◌≤◌, Bool, List, [], ◌∷◌, ◌++◌, drop, get_or, length, take, sym, ap, subst, ◌∙◌}
use Rattle.std.proofs.lemmas.List.{map-append, take-append-drop, take_all}
use Rattle.std.proofs.lemmas.List.Elements.{filter-append, filter_more}
use Rattle.gp_observer.specs.declared.rule.Rule.{Rule}
use Rattle.gp_observer.specs.Watch.{Watch}
use Rattle.gp_log.specs.declared.said.Said.{Said}
use Rattle.gp_finding.specs.declared.push.Place.{Place}
use Rattle.gp_audit.specs.declared.book.Book.{Book}
use Rattle.gp_audit.specs.declared.options.AuditOptions.{AuditOptions}
use Rattle.gp_audit.specs.declared.fault.AuditFault.{AuditFault}
use Rattle.gp_audit.specs.Book.{TellingFails, TellsNotices}
use Rattle.gp_audit.specs.Hearing.{findings_of}
use Rattle.gp_audit.specs.Notice.{Notice, Finding}
use Rattle.gp_audit.proofs.BookLemmas.{fails_before, fails_behind, tells_more}

-- the findings of the first of these rules that pass the test
abbrev pub found : (Rule → Bool) → Watch → Place → Said → List Rule → ℕ → List Notice
found test watch place said rules count = findings_of watch place said (filter test (take count rules))

found_next : (test : Rule → Bool) (watch : Watch) (place : Place) (said : Said) (rules : List Rule) (i : ℕ) (d : Rule) (more : List Rule) → i < length rules
    → filter test (take (i + 1) rules) ≡ filter test (take i rules) ++ more
    → found test watch place said rules (i + 1) ≡ found test watch place said rules i ++ findings_of watch place said more
found_next test watch place said rules i d more within is =
    ap (findings_of watch place said) is ∙ map-append (λ (rule : Rule). Finding watch place said rule) (filter test (take i rules)) more

-- one more, if it is told
pub found_more : (options : AuditOptions) (test : Rule → Bool) (watch : Watch) (place : Place) (said : Said) (rules : List Rule) (i : ℕ) (d : Rule) (a b c : Book)
    → i < length rules → TellsNotices options (found test watch place said rules i) a b
    → TellsNotices options (findings_of watch place said (if test (get_or rules i d) then get_or rules i d ∷ [] else [])) b c
    → TellsNotices options (found test watch place said rules (i + 1)) a c
found_more options test watch place said rules i d a b c within p q =
    let one : List Rule = if test (get_or rules i d) then get_or rules i d ∷ [] else [] in
    subst (λ (ns : List Notice). TellsNotices options ns a c) (sym (found_next test watch place said rules i d one within (filter_more test rules i d within)))
    (tells_more options (found test watch place said rules i) (findings_of watch place said one) a b c p q)

-- all of them
pub found_all : (options : AuditOptions) (test : Rule → Bool) (watch : Watch) (place : Place) (said : Said) (rules wanted : List Rule) (i : ℕ) (a b : Book)
    → rules ≡ wanted → length rules ≤ i → TellsNotices options (found test watch place said rules i) a b → TellsNotices options (findings_of watch place said (filter test wanted)) a b
found_all options test watch place said rules wanted i a b same all p =
    subst (λ (rs : List Rule). TellsNotices options (findings_of watch place said (filter test rs)) a b) (take_all i rules all ∙ same) p

-- where one more can't be told, all of them can't
pub found_fails : (options : AuditOptions) (test : Rule → Bool) (watch : Watch) (place : Place) (said : Said) (rules wanted : List Rule) (i : ℕ) (d : Rule) (a b : Book) (fault : AuditFault)
    → rules ≡ wanted → i < length rules → TellsNotices options (found test watch place said rules i) a b
    → TellingFails b.sum (findings_of watch place said (if test (get_or rules i d) then get_or rules i d ∷ [] else [])) ⊥ fault
    → TellingFails a.sum (findings_of watch place said (filter test wanted)) ⊥ fault
found_fails options test watch place said rules wanted i d a b fault same within p q =
    let one : List Rule = if test (get_or rules i d) then get_or rules i d ∷ [] else [] in
    let more = findings_of watch place said (filter test (drop (i + 1) rules)) in
    let here = subst (λ (ns : List Notice). TellingFails a.sum ns ⊥ fault) (sym (found_next test watch place said rules i d one within (filter_more test rules i d within)))
    (fails_behind options (found test watch place said rules i) (findings_of watch place said one) ⊥ ⊥ a b fault p (λ n. n) q) in
    let all : found test watch place said rules (i + 1) ++ more ≡ findings_of watch place said (filter test wanted) =
    sym (map-append (λ (rule : Rule). Finding watch place said rule) (filter test (take (i + 1) rules)) (filter test (drop (i + 1) rules)))
    ∙ ap (findings_of watch place said) (sym (filter-append test (take (i + 1) rules) (drop (i + 1) rules)) ∙ ap (filter test) (take-append-drop (i + 1) rules ∙ same)) in
    subst (λ (ns : List Notice). TellingFails a.sum ns ⊥ fault) all (fails_before a.sum (found test watch place said rules (i + 1)) more ⊥ ⊥ fault (λ n. n) here)
