use Rattle.std.proofs.Common.{◌≡◌, ◌++◌, take}
use Rattle.std.specs.List.{flat_map}
use Rattle.gp_dump.specs.Text.{octet_digits}
use Rattle.gp_dump.proofs.piece.push_digits.Given as goal

abbrev pub invariant-octets : goal.invariant-octets
invariant-octets l = l.out.items ≡ l.fn.out.items ++ flat_map octet_digits (take l.octet-index l.octets)
