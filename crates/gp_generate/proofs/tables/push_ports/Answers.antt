use Rattle.std.proofs.Common.{◌≡◌, ℕ, ◌++◌, refl, rules, ap, ◌∙◌}
use Rattle.gp_generate.specs.declared.mistake.TheConstants.{MISTAKES}
use Rattle.gp_generate.specs.declared.chance.Draw.{Draw}
use Rattle.gp_generate.specs.declared.chance.Drawn.TheVariants.{Ports}
use Rattle.gp_generate.specs.Chance.{drawn_for}
use Rattle.gp_generate.specs.Tables.{ports_text, port_text}
use Rattle.gp_generate.proofs.ChanceLemmas.{behind_next, drawn_from}
use Rattle.gp_generate.proofs.GrowingLemmas.{more}
use Rattle.gp_generate.proofs.tables.push_ports.Goals as goal

pub ports-preserved : goal.ports-preserved
ports-preserved c =
    let drawn = drawn_from c.args.plan.now.seed Ports c.ports.port c.ports.chance c.draw_four-draw.result c.ports.invariant.1 c.draw_four-draw.ensures.value in
    let told : c.push_port.new.out.items ≡ c.ports.out.items ++ port_text MISTAKES c.args.plan.now c.ports.port c.draw_four-draw.result = search rules in (
      more (ports_text MISTAKES c.args.plan.now) (λ (n : ℕ). port_text MISTAKES c.args.plan.now n (drawn_for c.args.plan.now.seed Ports n)) c.ports.port c.args.out.now.items c.ports.out.items
          c.push_port.new.out.items refl c.ports.invariant.0 (told ∙ ap (λ (d : Draw). c.ports.out.items ++ port_text MISTAKES c.args.plan.now c.ports.port d) drawn),
      behind_next c.args.plan.now.seed Ports c.ports.port c.ports.chance c.draw_four-draw.new.chance c.ports.invariant.1 c.draw_four-draw.ensures.rest,
    )
