use Rattle.gp_log.proofs.KindLemmas.{trace_refused}
use Rattle.gp_log.proofs.laws.lines_are_of_one_kind.Goals as goal

pub returns : goal.returns
returns c = trace_refused
