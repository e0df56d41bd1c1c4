use Rattle.std.proofs.Common.{◌≡◌, ◌++◌}
use Rattle.gp_generate.specs.declared.chance.Drawn.TheVariants.{Losses}
use Rattle.gp_generate.specs.Chance.{chance_behind}
use Rattle.gp_generate.specs.Tables as spec
use Rattle.gp_generate.proofs.tables.push_losses.Given as goal

abbrev pub invariant-units : goal.invariant-units
invariant-units l =
    (l.out.items ≡ l.fn.out.items ++ spec.losses_text l.plan l._unit) × (l.chance ≡ chance_behind l.plan.seed Losses l._unit)
