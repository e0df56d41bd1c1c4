use Rattle.std.proofs.Common.{◌≡◌, ℕ, ◌++◌, refl, rules, ap, ◌∙◌}
use Rattle.gp_generate.specs.declared.chance.Draw.{Draw}
use Rattle.gp_generate.specs.declared.chance.Drawn.TheVariants.{Units}
use Rattle.gp_generate.specs.Chance.{drawn_for}
use Rattle.gp_generate.specs.Tables.{units_text, unit_text}
use Rattle.gp_generate.proofs.ChanceLemmas.{behind_next, drawn_from}
use Rattle.gp_generate.proofs.GrowingLemmas.{more}
use Rattle.gp_generate.proofs.tables.push_units.Goals as goal

pub units-preserved : goal.units-preserved
units-preserved c =
    let drawn = drawn_from c.args.plan.now.seed Units c.units.unit c.units.chance c.draw_four-draw.result c.units.invariant.1 c.draw_four-draw.ensures.value in
    let told : c.push_unit.new.out.items ≡ c.units.out.items ++ unit_text c.units.unit c.draw_four-draw.result = search rules in (
      more (units_text c.args.plan.now) (λ (n : ℕ). unit_text n (drawn_for c.args.plan.now.seed Units n)) c.units.unit c.args.out.now.items c.units.out.items
          c.push_unit.new.out.items refl c.units.invariant.0 (told ∙ ap (λ (d : Draw). c.units.out.items ++ unit_text c.units.unit d) drawn),
      behind_next c.args.plan.now.seed Units c.units.unit c.units.chance c.draw_four-draw.new.chance c.units.invariant.1 c.draw_four-draw.ensures.rest,
    )
