use Rattle.std.proofs.Common.{◌≡◌, ◌++◌, take}
use Rattle.std.specs.List.{flat_map}
use Rattle.gp_json.specs.Spelling.{escaped}
use Rattle.gp_json.proofs.text.push_each.Given as goal

abbrev pub invariant-octets : goal.invariant-octets
invariant-octets l = l.out.items ≡ l.fn.out.items ++ flat_map escaped (take l.octet-index l.text)
