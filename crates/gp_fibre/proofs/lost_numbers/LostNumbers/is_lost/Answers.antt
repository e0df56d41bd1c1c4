use Rattle.std.proofs.Common.{◌≡◌, ℕ, List, is_some, ap, sym, ◌∙◌}
use Rattle.gp_fibre.proofs.LostLemmas.{first_where_lost}
use Rattle.gp_fibre.specs.Schedule.{is_lost}
use Rattle.gp_fibre.specs.LostNumbers.{stands_at}
use Rattle.gp_fibre.proofs.lost_numbers.LostNumbers.is_lost.Goals as goal

pub returns-then-self-clause-value : goal.returns-then-self-clause-value
returns-then-self-clause-value c =
    let number = c.args.number in
    let place = c.place_near-place.result in
    let view : c.self.inside.given.value.items ≡ c.args.self.now = c.self.view_is in
    c.stands_at.ensures ∙ ap (λ (xs : List ℕ). stands_at xs place number) (c.deref-then-self.ensures.value ∙ sym c.deref.ensures.value) ∙ sym c.place_near-place.ensures
    ∙ ap (λ (xs : List ℕ). is_lost xs number) c.deref.ensures.value ∙ c.self.invariant.same number ∙ ap (λ (xs : List ℕ). is_lost xs number) view

pub returns-clause-value : goal.returns-clause-value
returns-clause-value c =
    let number = c.args.number in
    let view : c.self.inside.given.value.items ≡ c.args.self.now = c.self.view_is in
    c.is_some.ensures ∙ ap is_some c.first_place_of-first.ensures ∙ first_where_lost number _ ∙ ap (λ (xs : List ℕ). is_lost xs number) c.deref-2.ensures.value ∙ c.self.invariant.same number
    ∙ ap (λ (xs : List ℕ). is_lost xs number) view
