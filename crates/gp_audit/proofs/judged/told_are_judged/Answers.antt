use Rattle.gp_audit.proofs.JudgedLemmas.{either_judged, have_sides, judged_join}
use Rattle.gp_audit.proofs.judged.told_are_judged.Goals as goal

pub returns : goal.returns
returns c = record { join = judged_join; either = either_judged; sides = have_sides }
