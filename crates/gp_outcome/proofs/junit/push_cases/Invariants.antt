use Rattle.std.proofs.Common.{◌≡◌, ◌++◌, take}
use Rattle.std.specs.List.{flat_map}
use Rattle.gp_outcome.specs.Junit.{case_text}
use Rattle.gp_outcome.proofs.junit.push_cases.Given as goal

abbrev pub invariant-cases : goal.invariant-cases
invariant-cases l = l.out.items ≡ l.fn.out.items ++ flat_map case_text (take l.verdict-index l.verdicts)
