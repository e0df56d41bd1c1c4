use Rattle.gp_storm.proofs.RoundLemmas.{ending_of}
use Rattle.gp_storm.proofs.rounds.rounds.Goals as goal

pub returns-then-is_done-clause-ending : goal.returns-then-is_done-clause-ending
returns-then-is_done-clause-ending g c = ending_of _ _ _ c.loop.invariant.told
