use Rattle.std.proofs.Common.{◌≡◌, ◌∙◌, None, ap}
use Rattle.gp_compare.proofs.ComparerLemmas.{known_more}
use Rattle.gp_compare.proofs.comparer.Comparer.take_rest.Goals as goal

pub invariant_of-self-in-Ok-true : goal.invariant_of-self-in-Ok-true
invariant_of-self-in-Ok-true g c =
    let none : c.self.inside.fault ≡ None = ap (λ s. s.fault) c.self.view_is ∙ c.requires.running in
    known_more _ _ _ _ _ _ _ _ _ _ none c.in-Some.is c.self.invariant (rw c.in-Ok-true.field-0-test at c.in-Ok-true.ensures) c.note.ensures
