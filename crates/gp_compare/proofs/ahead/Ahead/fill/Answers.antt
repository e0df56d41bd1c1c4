use Rattle.std.proofs.Common.{◌≡◌, false, ◌≤◌, length, rules, ap, refl, ◌∙◌}
use Rattle.gp_compare.proofs.AheadLemmas.{fills_none, fills_seen, range_none, range_some}
use Rattle.gp_compare.proofs.ahead.Ahead.fill.Goals as goal

pub returns-then-self-clause-fills : goal.returns-then-self-clause-fills
returns-then-self-clause-fills g c =
    let view = c.self.view_is in
    let high : c.self.inside.until ≤ length c.self.inside.block.items = search rules in
    fills_none _ _ (λ none. range_some _ _ _ c.if-self.true high (ap (λ a. a.rest) view ∙ none))

pub returns-in-Ok-clause-fills : goal.returns-in-Ok-clause-fills
returns-in-Ok-clause-fills g c =
    let unfailed : c.self.inside.source.failed ≡ false = search rules in
    fills_seen _ _ _ _ _ _ _ refl c.self.view_is (range_none _ _ _ c.if-self.false) unfailed c.in-Ok.ensures.reads (search rules)
