use Rattle.std.proofs.Common.{◌≡◌, ℕ, ◌++◌, refl, rules, ap, ◌∙◌}
use Rattle.gp_generate.specs.declared.chance.Draw.{Draw}
use Rattle.gp_generate.specs.declared.chance.Drawn.TheVariants.{Losses}
use Rattle.gp_generate.specs.Chance.{drawn_for}
use Rattle.gp_generate.specs.Tables.{losses_text, loss_text}
use Rattle.gp_generate.proofs.ChanceLemmas.{behind_next, drawn_from}
use Rattle.gp_generate.proofs.GrowingLemmas.{more}
use Rattle.gp_generate.proofs.tables.push_losses.Goals as goal

pub units-preserved : goal.units-preserved
units-preserved c =
    let drawn = drawn_from c.args.plan.now.seed Losses c.units._unit c.units.chance c.draw_four-draw.result c.units.invariant.1 c.draw_four-draw.ensures.value in
    let told : c.push_loss.new.out.items ≡ c.units.out.items ++ loss_text c.args.plan.now c.draw_four-draw.result = search rules in (
      more (losses_text c.args.plan.now) (λ (n : ℕ). loss_text c.args.plan.now (drawn_for c.args.plan.now.seed Losses n)) c.units._unit c.args.out.now.items c.units.out.items
          c.push_loss.new.out.items refl c.units.invariant.0 (told ∙ ap (λ (d : Draw). c.units.out.items ++ loss_text c.args.plan.now d) drawn),
      behind_next c.args.plan.now.seed Losses c.units._unit c.units.chance c.draw_four-draw.new.chance c.units.invariant.1 c.draw_four-draw.ensures.rest,
    )
