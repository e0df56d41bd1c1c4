use Rattle.gp_options.proofs.SideLemmas.{are_judged, tells_nothing}
use Rattle.gp_options.proofs.sides.sides_are_judged.Goals as goal

pub returns : goal.returns
returns c = record { judged = are_judged; none = tells_nothing }
