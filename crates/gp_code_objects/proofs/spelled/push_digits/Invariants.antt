use Rattle.std.proofs.Common.{◌≡◌, ◌++◌, length}
use Rattle.gp_decode.specs.LineText.{code_digits}
use Rattle.gp_code_objects.proofs.spelled.push_digits.Given as goal

abbrev pub invariant-groups : goal.invariant-groups
invariant-groups l = l.out.items ++ code_digits l.rest ≡ l.fn.out.items ++ code_digits l.text

abbrev pub decreases-groups : goal.decreases-groups
decreases-groups l = length l.rest
