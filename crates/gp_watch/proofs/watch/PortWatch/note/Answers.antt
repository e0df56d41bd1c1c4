use Rattle.std.proofs.Common.{inl, inr, refl, sym, ap, ◌∙◌}
use Rattle.gp_ploam.specs.declared.message.Down.TheVariants.{UpstreamOverhead, NoMessage, Other}
use Rattle.gp_observer.specs.Watch.{Watch, noted}
use Rattle.gp_watch.proofs.Noting.{noted_keeping}
use Rattle.gp_watch.proofs.watch.PortWatch.note.Goals as goal

pub returns-in_ok-note_assign-in-AssignOnu-clause-ok : goal.returns-in_ok-note_assign-in-AssignOnu-clause-ok
returns-in_ok-note_assign-in-AssignOnu-clause-ok c = c.in_ok-note_assign-in-AssignOnu.ensures.ok ∙ ap (noted c.args.self.now) (sym c.in-AssignOnu.is)

pub returns-in-UpstreamOverhead-clause-ok : goal.returns-in-UpstreamOverhead-clause-ok
returns-in-UpstreamOverhead-clause-ok c =
    let w : Watch = c.args.self.now in
    elim c.in-UpstreamOverhead.is [
      | inl up ↦ sym (ap (noted w) up.1 ∙ noted_keeping w (UpstreamOverhead up.0) (λ k. refl))
      | inr (inl nothing) ↦ sym (ap (noted w) nothing ∙ noted_keeping w NoMessage (λ k. refl))
      | inr (inr other) ↦ sym (ap (noted w) other.3 ∙ noted_keeping w (Other other.0 other.1 other.2) (λ k. refl))
    ]
