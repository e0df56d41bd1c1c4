use Rattle.std.proofs.Common.{◌∙◌, sym}
use Rattle.gp_machine.proofs.Distinct.{one_more}
use Rattle.gp_machine.proofs.admitted.neighbours_differ.Goals as goal

pub loop-i-preserved : goal.loop-i-preserved
loop-i-preserved c = one_more c.args.serials.now c.loop-i.i c.loop-i.invariant c.loop-i.auto.i c.loop-i-test.true (sym c.eq.ensures ∙ c.if-eq.false)
