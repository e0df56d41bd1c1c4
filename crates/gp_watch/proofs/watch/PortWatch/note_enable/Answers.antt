use Rattle.std.proofs.Common.{refl, sym, ◌∙◌}
use Rattle.gp_ploam.specs.declared.message.Down.TheVariants.{EnableSerial}
use Rattle.gp_watch.proofs.Noting.{noted_keeping}
use Rattle.gp_watch.proofs.watch.PortWatch.note_enable.Goals as goal

pub returns : goal.returns
returns c = c.enable.ensures ∙ sym (noted_keeping c.args.self.now (EnableSerial c.args.serial.now) (λ k. refl))
