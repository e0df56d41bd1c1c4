use Rattle.std.proofs.Common.{◌≡◌, ◌∙◌, None, ap}
use Rattle.gp_compare.proofs.ComparerLemmas.{known_differs, known_steps}
use Rattle.gp_compare.proofs.comparer.Comparer.take_more.Goals as goal

pub invariant_of-self : goal.invariant_of-self
invariant_of-self g c =
    let none : c.self.inside.fault ≡ None = ap (λ s. s.fault) c.self.view_is ∙ c.requires.running.0 in
    let unfound : c.self.inside.difference ≡ None = ap (λ s. s.difference) c.self.view_is ∙ c.requires.running.1 in
    let steps = rw c.in-Ok-Same.field-0-is at c.in-Ok-Same.ensures.steps in
    known_steps _ _ _ _ _ _ _ _ _ _ _ none unfound c.self.invariant steps.0 c.note.ensures

pub invariant_of-self-in-Ok-Other : goal.invariant_of-self-in-Ok-Other
invariant_of-self-in-Ok-Other g c =
    let none : c.self.inside.fault ≡ None = ap (λ s. s.fault) c.self.view_is ∙ c.requires.running.0 in
    let unfound : c.self.inside.difference ≡ None = ap (λ s. s.difference) c.self.view_is ∙ c.requires.running.1 in
    let other = rw c.in-Ok-Other.field-0-is at c.in-Ok-Other.ensures.steps in
    known_differs _ _ _ _ _ _ _ _ _ _ _ none unfound c.self.invariant other c.note-in-Ok-Other.ensures c.requires.some
