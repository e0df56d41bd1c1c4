use Rattle.gp_lines.proofs.ShortLemmas.{line_short}
use Rattle.gp_lines.proofs.laws.traced_lines_are_short.Goals as goal

pub returns : goal.returns
returns c = line_short
