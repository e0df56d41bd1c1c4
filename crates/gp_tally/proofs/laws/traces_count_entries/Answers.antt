use Rattle.gp_tally.proofs.LineLemmas.{entries_counted}
use Rattle.gp_tally.proofs.laws.traces_count_entries.Goals as goal

pub returns : goal.returns
returns c = entries_counted
