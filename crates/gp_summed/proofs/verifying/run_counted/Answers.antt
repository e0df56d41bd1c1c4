use Rattle.std.proofs.Common.{◌∙◌, All, ap, subst}
use Rattle.std.proofs.lemmas.Result.{err_from_is_err_and}
use Rattle.gp_verify.specs.Ports.{IsOrderlyPort}
use Rattle.gp_verify.specs.Verdicts.{VerifyState}
use Rattle.gp_verify.proofs.OutcomeLemmas.{verified_as}
use Rattle.gp_summed.proofs.CountedLines.{served, unread_so}
use Rattle.gp_summed.proofs.CountedTexts.{counted_as}
use Rattle.gp_summed.proofs.verifying.run_counted.Goals as goal

pub returns-clause-runs : goal.returns-clause-runs
returns-clause-runs g c =
    let ended = c.ended-found.ensures ∙ ap (λ (s : VerifyState). s.ended) c.verifier-2.ensures in
    let lines = c.lines.ensures ∙ ap (λ (s : VerifyState). s.lines) c.verifier-3.ensures in
    let ports = subst (λ (s : VerifyState). All IsOrderlyPort s.play.world.ports) c.verifier.ensures c.stands.ensures in
    verified_as _ _ c.args.counting.now.verify c.run_lines.new.work.verify _ _ c.in_ok-end.end c.ended-found.result c.lines.result c.finding.result ended lines c.finding.ensures ports
    c.requires.begins c.requires.first (served _ _ c.args.counting.now c.run_lines.new.work _ _ 4096 c.in_ok-end.end c.in_ok-end.ensures.ok)

pub returns-clause-counts : goal.returns-clause-counts
returns-clause-counts g c =
    let ended = c.ended-found.ensures ∙ ap (λ (s : VerifyState). s.ended) c.verifier-2.ensures in
    let lines = c.lines.ensures ∙ ap (λ (s : VerifyState). s.lines) c.verifier-3.ensures in
    let ports = subst (λ (s : VerifyState). All IsOrderlyPort s.play.world.ports) c.verifier.ensures c.stands.ensures in
    counted_as c.args.source.now c.run_lines.new.source c.args.counting.now c.run_lines.new.work c.args.sink.now c.run_lines.new.sink ports c.requires.begins c.requires.first c.requires.nothing
    c.in_ok-end.end c.ended-found.result c.lines.result c.finding.result ended lines c.finding.ensures c.in_ok-end.ensures.ok

pub returns-in_err-end-clause-runs : goal.returns-in_err-end-clause-runs
returns-in_err-end-clause-runs g c =
    let p = err_from_is_err_and c.from_residual.result c.from_residual.ensures.1 in
    rw (p.1, p.2) (unread_so c.args.source.now c.run_lines.new.source c.args.counting.now c.run_lines.new.work c.args.sink.now c.run_lines.new.sink _ c.in_err-end.ensures)
