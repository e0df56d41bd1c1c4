use Rattle.std.proofs.lemmas.Result.{IfOk-weaker}
use Rattle.gp_workers.proofs.Steps.{some_step}
use Rattle.gp_workers.proofs.chassis.serve_soundly.Goals as goal

pub returns-clause-step : goal.returns-clause-step
returns-clause-step g c =
    IfOk-weaker c.serve.result _ _ (λ served h. some_step _ _ _ _ _ _ _ c.every_state_is_sound.ensures c.journal-journal.ensures.stands h) c.serve.ensures.ok
