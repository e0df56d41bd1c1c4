use Rattle.std.proofs.Common.{ℕ, List, sym, subst, ◌∙◌}
use Rattle.gp_log.specs.Usual.{NumberBegins}
use Rattle.gp_log.proofs.NextLemmas.{number_taken}
use Rattle.gp_log.proofs.fields.next_number.Goals as goal

pub returns-in-Some-clause-value : goal.returns-in-Some-clause-value
returns-in-Some-clause-value c =
    let begins = subst (λ (t : List ℕ). NumberBegins t c.in-Some.number c.in-Some.rest.now) c.trimmed.ensures c.in-Some.ensures in
    number_taken c.args.text.now c.in-Some.rest.now c.in-Some.number c.args.greatest begins (sym c.is_parted.ensures ∙ c.if-is_parted.true) c.if-number-greatest.true
