use Rattle.gp_laws.proofs.WholeRuns.{end_alike, replies_tell}
use Rattle.gp_laws.proofs.runs.runs_end_alike.Goals as goal

pub returns : goal.returns
returns c = record { entries = end_alike c.one_outcome.ensures.outcome; replies = replies_tell c.one_outcome.ensures.outcome }
