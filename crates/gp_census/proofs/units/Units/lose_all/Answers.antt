use Rattle.std.proofs.Common.{ap, ◌∙◌}
use Rattle.gp_census.specs.declared.sighting.UnitEvent.TheVariants.{Loses}
use Rattle.gp_census.specs.Census.{changed_holder}
use Rattle.gp_census.proofs.Losing.{none_lost, next_lost}
use Rattle.gp_census.proofs.units.Units.lose_all.Goals as goal

pub loop-onu-init : goal.loop-onu-init
loop-onu-init c = none_lost c.args.self.now c.args.watch.now

pub loop-onu-preserved : goal.loop-onu-preserved
loop-onu-preserved c =
    c.change_holder.ensures ∙ ap (λ u. changed_holder u c.args.watch.now c.loop-onu.onu Loses) c.loop-onu.invariant
    ∙ next_lost c.args.self.now c.args.watch.now c.loop-onu.onu
