use Rattle.std.proofs.Common.{◌≡◌, ◌≤◌, ℕ, length, ap, sym, subst, ◌∙◌, arith}
use Rattle.gp_fibre.specs.Flights.{AreInReach}
use Rattle.gp_fibre.specs.Forgetting.{first_to_come}
use Rattle.gp_fibre.specs.World.{Forgotten}
use Rattle.gp_fibre.proofs.Playing.{first_at_least, first_at_most, still_to_come}
use Rattle.gp_fibre.proofs.world.World.forget.Goals as goal

pub forget-requires-clause-kept : goal.forget-requires-clause-kept
forget-requires-clause-kept g c =
    let i = c.self.inside in
    let kept = c.self.invariant.0 in
    subst (λ (n : ℕ). i.fibre.world.forgotten.bursts ≤ n) (sym c.first_to_come.ensures)
    (first_at_least i.fibre.world.forgotten.bursts (length i.fibre.world.bursts) c.bursts-next.result i.flights.flights c.bursts-next.ensures.kept kept.each)

pub forget-requires-clause-sent : goal.forget-requires-clause-sent
forget-requires-clause-sent g c =
    let i = c.self.inside in
    let most = first_at_most c.bursts-next.result i.flights.flights in
    omega (arith, c.first_to_come.ensures, c.bursts-next.ensures.value)

pub invariant_of-self : goal.invariant_of-self
invariant_of-self g c =
    let i = c.self.inside in
    let first : c.first_to_come.result ≡ first_to_come (length i.fibre.world.bursts) i.flights.flights =
    c.first_to_come.ensures ∙ ap (λ (n : ℕ). first_to_come n i.flights.flights) c.bursts-next.ensures.value in
    let few = ap (λ (f : Forgotten). f.bursts) c.forget.ensures.forgotten in (
      still_to_come i.fibre.world c.forget.new.self.world i.flights.flights c.self.invariant.0 c.forget.ensures.forgets.bursts.many (omega arith),
      subst (λ (n : ℕ). AreInReach n i.flights.flights) (sym c.forget.ensures.frames) c.self.invariant.1,
    )
