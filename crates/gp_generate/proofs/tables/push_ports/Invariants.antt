use Rattle.std.proofs.Common.{◌≡◌, ◌++◌}
use Rattle.gp_generate.specs.declared.mistake.TheConstants.{MISTAKES}
use Rattle.gp_generate.specs.declared.chance.Drawn.TheVariants.{Ports}
use Rattle.gp_generate.specs.Chance.{chance_behind}
use Rattle.gp_generate.specs.Tables as spec
use Rattle.gp_generate.proofs.tables.push_ports.Given as goal

abbrev pub invariant-ports : goal.invariant-ports
invariant-ports l =
    (l.out.items ≡ l.fn.out.items ++ spec.ports_text MISTAKES l.plan l.port) × (l.chance ≡ chance_behind l.plan.seed Ports l.port)
