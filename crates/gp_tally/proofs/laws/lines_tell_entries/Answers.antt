use Rattle.gp_tally.proofs.LineLemmas.{entry_told, line_tells}
use Rattle.gp_tally.proofs.laws.lines_tell_entries.Goals as goal

pub returns : goal.returns
returns c = λ mask receipt text limits is port told. (entry_told mask receipt text limits is port told, line_tells mask receipt text limits is port told)
