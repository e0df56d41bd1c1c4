use Rattle.std.proofs.Common.{arith, rules}
use Rattle.gp_storm.proofs.Serves.{unclosed}
use Rattle.gp_storm.proofs.ServedCounts.{commands_planned, frames_planned}
use Rattle.gp_storm.proofs.engine.storm.Goals as goal

pub returns-in-Ok-close-clause-licences : goal.returns-in-Ok-close-clause-licences
returns-in-Ok-close-clause-licences g c = search rules

pub returns-in-Ok-close-clause-frames : goal.returns-in-Ok-close-clause-frames
returns-in-Ok-close-clause-frames g c =
    frames_planned c.args.plan.now _ _ _ _ _ (omega arith) c.in-Ok-close.ensures.ending c.in-Ok-close.ensures.accounted c.in-Ok-work.ensures.served

pub returns-in-Ok-close-clause-commands : goal.returns-in-Ok-close-clause-commands
returns-in-Ok-close-clause-commands g c =
    commands_planned c.args.plan.now _ _ _ _ _ (omega arith) c.in-Ok-close.ensures.ending c.in-Ok-close.ensures.accounted c.in-Ok-work.ensures.served

pub returns-in-Err-close-clause-fault : goal.returns-in-Err-close-clause-fault
returns-in-Err-close-clause-fault g c = unclosed _ _ _ c.given_up.ensures
