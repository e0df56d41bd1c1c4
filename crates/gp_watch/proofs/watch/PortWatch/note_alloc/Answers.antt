use Rattle.std.proofs.Common.{refl, sym, ◌∙◌}
use Rattle.gp_ploam.specs.declared.message.Down.TheVariants.{AssignAlloc}
use Rattle.gp_watch.proofs.Noting.{noted_keeping}
use Rattle.gp_watch.proofs.watch.PortWatch.note_alloc.Goals as goal

pub returns : goal.returns
returns c = c.assign_alloc.ensures ∙ sym (noted_keeping c.args.self.now (AssignAlloc c.args.onu c.args.alloc c.args.keep) (λ k. refl))
