use Rattle.std.proofs.Common.{List, ℕ, subst, ◌∙◌}
use Rattle.gp_audit.specs.Listening.{HearsLine}
use Rattle.gp_summed.proofs.hearer.hear_kept.Goals as goal

pub returns-clause-heard : goal.returns-clause-heard
returns-clause-heard c =
    subst (λ (l : List ℕ). HearsLine c.args.listener.now.mask l c.args.listener.now.ports c.hear.new.self.ports) (c.as_slice.ensures.value ∙ c.in_ok-extend_from_slice.ensures.items)
    c.in_ok-hear.ensures.heard
