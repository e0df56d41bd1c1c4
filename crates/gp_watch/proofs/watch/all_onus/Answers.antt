use Rattle.std.proofs.Common.{ap, ◌∙◌}
use Rattle.std.specs.FinSet as finset
use Rattle.gp_watch.proofs.Sets.{below_next, below_none}
use Rattle.gp_watch.proofs.watch.all_onus.Goals as goal

pub loop-onu-init : goal.loop-onu-init
loop-onu-init c = c.new-onus.ensures ∙ below_none

pub loop-onu-preserved : goal.loop-onu-preserved
loop-onu-preserved c = c.insert.ensures ∙ ap (λ s. finset.insert s c.loop-onu.onu) c.loop-onu.invariant ∙ below_next c.loop-onu.onu
