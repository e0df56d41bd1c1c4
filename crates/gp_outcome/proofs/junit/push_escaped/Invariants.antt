use Rattle.std.proofs.Common.{◌≡◌, ◌++◌, take}
use Rattle.std.specs.List.{flat_map}
use Rattle.gp_outcome.specs.Junit.{escaped}
use Rattle.gp_outcome.proofs.junit.push_escaped.Given as goal

abbrev pub invariant-octets : goal.invariant-octets
invariant-octets l = l.out.items ≡ l.fn.out.items ++ flat_map escaped (take l.octet-index l.text)
