use Rattle.gp_explain.proofs.OutcomeLemmas.{explained_as, unbegun, unread_as}
use Rattle.gp_explain.proofs.running.explain_trace.Goals as goal

pub returns-in_err-explainer : goal.returns-in_err-explainer
returns-in_err-explainer g c = unbegun c.args.telling c.args.source.now c.args.sink.now _ c.from_residual.ensures.1

pub returns-in_err-run_lines : goal.returns-in_err-run_lines
returns-in_err-run_lines g c =
    unread_as c.args.telling _ _ _ _ _ c.in_ok-explainer.explainer c.run_lines.new.work _ c.in_ok-explainer.ensures c.from_residual-in_err-run_lines.ensures.1 c.in_err-run_lines.ensures

pub returns : goal.returns
returns g c =
    explained_as c.args.telling _ _ _ _ _ c.in_ok-explainer.explainer c.run_lines.new.work _ _ _ c.in_ok-explainer.ensures c.ended.ensures c.lines.ensures c.finding.ensures
    c.in_ok-run_lines.ensures.ok
