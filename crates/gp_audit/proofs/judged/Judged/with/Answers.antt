use Rattle.gp_audit.specs.Judging.{judged_on_both}
use Rattle.gp_audit.proofs.judged.Judged.with.Goals as goal

pub returns : goal.returns
unfolding judged_on_both
returns c = λ i. record { terminal = c.of_both.ensures i; units = c.of_both-2.ensures i; garbled = c.saturating_add.ensures i }
