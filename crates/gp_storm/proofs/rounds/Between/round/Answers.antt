use Rattle.std.proofs.Common.{arith}
use Rattle.gp_storm.proofs.ServedCounts.{commands_of_round, frames_of_round}
use Rattle.gp_storm.proofs.rounds.Between.round.Goals as goal

pub returns-in-Ok-cut-clause-frames : goal.returns-in-Ok-cut-clause-frames
returns-in-Ok-cut-clause-frames g c =
    frames_of_round c.args.part.now _ _ _ _ _ (omega arith) c.in-Ok-cut.ensures.ending c.in-Ok-cut.ensures.accounted c.in-Ok.ensures.served

pub returns-in-Ok-cut-clause-commands : goal.returns-in-Ok-cut-clause-commands
returns-in-Ok-cut-clause-commands g c =
    commands_of_round c.args.part.now _ _ _ _ _ (omega arith) c.in-Ok-cut.ensures.ending c.in-Ok-cut.ensures.accounted c.in-Ok.ensures.served
