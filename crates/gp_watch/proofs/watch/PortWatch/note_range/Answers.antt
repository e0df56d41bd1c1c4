use Rattle.std.proofs.Common.{refl, sym, ◌∙◌}
use Rattle.gp_ploam.specs.declared.message.Down.TheVariants.{RangingTime}
use Rattle.gp_watch.proofs.Noting.{noted_keeping}
use Rattle.gp_watch.proofs.watch.PortWatch.note_range.Goals as goal

pub returns : goal.returns
returns c = c.set_delay.ensures ∙ sym (noted_keeping c.args.self.now (RangingTime c.args.onu c.args.eqd) (λ k. refl))
