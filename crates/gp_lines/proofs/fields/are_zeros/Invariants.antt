use Rattle.std.proofs.Common.{◌≡◌, take}
use Rattle.std.specs.List.{list_all}
use Rattle.gp_lines.specs.Leading.{is_zero}
use Rattle.gp_lines.proofs.fields.are_zeros.Given as goal

abbrev pub invariant-loop-octet : goal.invariant-loop-octet
invariant-loop-octet l = l.all ≡ list_all is_zero (take l.octet-index l.text)
