use Rattle.std.proofs.Common.{rules, ◌≡◌, None, Some, sym, ap, ◌∙◌}
use Rattle.std.specs.List.{find}
use Rattle.std.specs.Option.{option_map}
use Rattle.hear_notes.specs.declared.granted.Granted.{Granted}
use Rattle.hear_notes.specs.Grants.{Book, granted_of, waits_by}
use Rattle.hear_notes.proofs.Granting.{first_is}
use Rattle.hear_notes.proofs.grants.GrantBook.waiting.Goals as goal

pub returns-in_err-granted : goal.returns-in_err-granted
returns-in_err-granted c =
    let book = c.args.self.now in
    let kept = c.as_slice.ensures.value ∙ ap (λ (b : Book). b.kept) c.self.view_is in
    let first =
    c.first_waiting.ensures
    ∙ ap (find (λ (granted : Granted). waits_by c.args.grace c.args.now c.searched_by-searched.result (granted_of granted) c.args.message.now)) kept
    ∙ ap (λ s. find (λ (granted : Granted). waits_by c.args.grace c.args.now s (granted_of granted) c.args.message.now) book.kept) c.searched_by-searched.ensures in
    let none : c.first_waiting.result ≡ None = search rules in
    let given : c.from_residual.result ≡ None = search rules in
    given ∙ ap (option_map (λ (granted : Granted). granted.number)) (sym none ∙ first) ∙ first_is c.args.grace c.args.now book c.args.message.now book.kept

pub returns : goal.returns
returns c =
    let book = c.args.self.now in
    let kept = c.as_slice.ensures.value ∙ ap (λ (b : Book). b.kept) c.self.view_is in
    let first =
    c.first_waiting.ensures
    ∙ ap (find (λ (granted : Granted). waits_by c.args.grace c.args.now c.searched_by-searched.result (granted_of granted) c.args.message.now)) kept
    ∙ ap (λ s. find (λ (granted : Granted). waits_by c.args.grace c.args.now s (granted_of granted) c.args.message.now) book.kept) c.searched_by-searched.ensures in
    let there : c.first_waiting.result ≡ Some c.in_ok-granted.granted = search rules in
    ap (option_map (λ (granted : Granted). granted.number)) (sym there ∙ first) ∙ first_is c.args.grace c.args.now book c.args.message.now book.kept
