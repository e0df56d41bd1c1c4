use Rattle.std.proofs.Common.{◌≡◌, None, ap, rules, subst}
use Rattle.gp_compare.specs.Comparer.{ComparesAs}
use Rattle.gp_compare.proofs.ComparerLemmas.{known_ends}
use Rattle.gp_compare.proofs.comparer.Comparer.end.Goals as goal

pub returns-in-Ok-clause-compares : goal.returns-in-Ok-clause-compares
returns-in-Ok-clause-compares g c =
    let none : c.self.inside.fault ≡ None = search rules in
    let unfound : c.self.inside.difference ≡ None = search rules in
    subst (λ taken. ComparesAs g.E.Expects.expected taken c.in-Ok.end) (ap (λ s. s.taken) c.self.view_is)
    (known_ends _ _ _ _ _ _ _ _ none unfound c.self.invariant c.in-Ok.ensures.ends)
