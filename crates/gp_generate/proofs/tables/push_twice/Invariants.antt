use Rattle.std.proofs.Common.{◌≡◌, ◌++◌}
use Rattle.gp_generate.specs.declared.mistake.TheConstants.{MISTAKES}
use Rattle.gp_generate.specs.Tables as spec
use Rattle.gp_generate.proofs.tables.push_twice.Given as goal

abbrev pub invariant-mistakes : goal.invariant-mistakes
invariant-mistakes l = l.out.items ≡ l.fn.out.items ++ spec.twice_text MISTAKES l.seed l.number
