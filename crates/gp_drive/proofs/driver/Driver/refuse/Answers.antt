use Rattle.std.proofs.Common.{None, refl}
use Rattle.std.proofs.lemmas.Result.{err_from_is_err_and}
use Rattle.gp_drive.specs.Drive.{refusing}
use Rattle.gp_drive.proofs.AnswerLemmas.{answered, unanswered}
use Rattle.gp_drive.proofs.driver.Driver.refuse.Goals as goal

pub returns-in_err-put_ending-clause-answers : goal.returns-in_err-put_ending-clause-answers
returns-in_err-put_ending-clause-answers g c =
    let p = err_from_is_err_and c.from_residual.result c.from_residual.ensures.1 in
    rw (p.1, p.2, ← c.self.view_is) (unanswered (refusing c.args.fault) None _ _ _ _ _ _ _ (record { said_is = refl; new_is = refl }) c.in_err-put_ending.ensures)

pub returns-clause-answers : goal.returns-clause-answers
returns-clause-answers g c =
    rw (← c.self.view_is) (answered (refusing c.args.fault) None _ _ _ _ _ _ _ (record { said_is = refl; new_is = refl }) c.in_ok-put_ending.ensures)
