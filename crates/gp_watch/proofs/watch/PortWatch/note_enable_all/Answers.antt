use Rattle.std.proofs.Common.{refl, sym, ◌∙◌}
use Rattle.gp_ploam.specs.declared.message.Down.TheVariants.{EnableAll}
use Rattle.gp_watch.proofs.Noting.{noted_keeping}
use Rattle.gp_watch.proofs.watch.PortWatch.note_enable_all.Goals as goal

pub returns : goal.returns
returns c = c.enable_all.ensures ∙ sym (noted_keeping c.args.self.now (EnableAll) (λ k. refl))
