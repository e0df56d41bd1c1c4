use Rattle.std.proofs.Common.{◌≤◌, List, length, sym, subst, ◌∙◌, ◌+◌}
use Rattle.gp_observer.specs.declared.rule.Rule.{Rule}
use Rattle.gp_watch.proofs.Gathered.{broken_more, few_more}
use Rattle.gp_watch.proofs.broken.BrokenRules.of.Goals as goal

pub loop-at-preserved : goal.loop-at-preserved
loop-at-preserved c =
    let i = c.loop-at.at in
    record {
      found = c.push_if.ensures ∙ broken_more c.args.rules.now i _ c.loop-at.found c.loop-at-test.true c.loop-at.invariant.found;
      few = subst (λ (rs : List Rule). length rs ≤ i + 1) (sym c.push_if.ensures) (few_more c.loop-at.found _ i c.loop-at.invariant.few);
    }
