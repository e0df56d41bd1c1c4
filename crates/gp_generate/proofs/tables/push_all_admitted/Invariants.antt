use Rattle.std.proofs.Common.{◌≡◌, ◌++◌}
use Rattle.gp_generate.specs.Tables as spec
use Rattle.gp_generate.proofs.tables.push_all_admitted.Given as goal

abbrev pub invariant-units : goal.invariant-units
invariant-units l = l.out.items ≡ l.fn.out.items ++ spec.all_admitted l.port l.unit
