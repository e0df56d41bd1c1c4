use Rattle.gp_flow.specs.declared.fault.Unanswered.TheVariants.{OutOfMemory}
use Rattle.gp_script.specs.View.{script_view}
use Rattle.gp_verify.specs.Checking.{opened_by}
use Rattle.gp_verify.proofs.CheckingLemmas.{not_judged}
use Rattle.gp_verify.proofs.checking.verify_on.Goals as goal

pub returns-in_err-verifier : goal.returns-in_err-verifier
returns-in_err-verifier g c = not_judged (opened_by c.args.form (script_view c.args.script)) _ _ c.args.sink.now c.args.sink.now OutOfMemory _ (λ e. absurd (cc)) c.from_residual.ensures.1

pub returns : goal.returns
returns g c =
    let run = c.run_verify-found.ensures in
    let verified = rw c.in_ok-verifier.ensures at run.verified in
    (run.told, (c.run_verify-found.new.verifier, verified), run.written)
