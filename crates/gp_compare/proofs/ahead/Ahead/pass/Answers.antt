use Rattle.std.proofs.Common.{◌≤◌, ap, drop, length, subst, sym, ◌∙◌}
use Rattle.std.specs.List.{slice_range}
use Rattle.gp_compare.proofs.AheadLemmas.{range_drop}
use Rattle.gp_compare.proofs.ahead.Ahead.pass.Goals as goal

pub returns-clause-rest : goal.returns-clause-rest
returns-clause-rest g c =
    let view = c.self.view_is in
    let bound : c.args.count ≤ length (slice_range c.self.inside.block.items c.self.inside.from c.self.inside.until) = subst (λ a. c.args.count ≤ length a.rest) (sym view) c.requires in
    range_drop _ _ _ _ bound ∙ ap (λ a. drop c.args.count a.rest) view
