use Rattle.std.proofs.Common.{◌≡◌, ◌++◌}
use Rattle.gp_generate.specs.declared.chance.Drawn.TheVariants.{Units}
use Rattle.gp_generate.specs.Chance.{chance_behind}
use Rattle.gp_generate.specs.Tables as spec
use Rattle.gp_generate.proofs.tables.push_units.Given as goal

abbrev pub invariant-units : goal.invariant-units
invariant-units l =
    (l.out.items ≡ l.fn.out.items ++ spec.units_text l.plan l.unit) × (l.chance ≡ chance_behind l.plan.seed Units l.unit)
