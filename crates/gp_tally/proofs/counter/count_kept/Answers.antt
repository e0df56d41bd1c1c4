use Rattle.std.proofs.Common.{List, ℕ, subst, ◌∙◌}
use Rattle.gp_tally.specs.Ports.{CountsLine}
use Rattle.gp_tally.proofs.counter.count_kept.Goals as goal

pub returns-clause-counted : goal.returns-clause-counted
returns-clause-counted c =
    subst (λ (l : List ℕ). CountsLine c.args.mask l c.args.tallies.now c.count_line.new.self) (c.as_slice.ensures.value ∙ c.in_ok-extend_from_slice.ensures.items) c.in_ok-count_line.ensures.ok
