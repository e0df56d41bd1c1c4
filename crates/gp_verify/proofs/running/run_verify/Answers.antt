use Rattle.std.proofs.lemmas.Result.{err_from_is_err_and}
use Rattle.gp_verify.proofs.OutcomeLemmas.{unread, verified_as}
use Rattle.gp_verify.proofs.running.run_verify.Goals as goal

pub returns-in_err-end : goal.returns-in_err-end
returns-in_err-end g c =
    let p = err_from_is_err_and c.from_residual.result c.from_residual.ensures.1 in
    rw (p.1, p.2) (unread _ _ _ _ _ _ _ c.in_err-end.ensures)

pub returns : goal.returns
returns g c = verified_as _ _ _ _ _ _ _ _ _ _ c.ended-found.ensures c.lines.ensures c.finding.ensures c.stands.ensures c.requires.begins c.requires.first c.in_ok-end.ensures.ok
