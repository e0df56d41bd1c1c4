use Rattle.std.proofs.Common.{◌≡◌, ◌++◌, take}
use Rattle.std.specs.List.{flat_map}
use Rattle.gp_json.specs.Spelling.{escaped_utf8}
use Rattle.gp_json.proofs.quoted.push_utf8.Given as goal

abbrev pub invariant-octets : goal.invariant-octets
invariant-octets l = l.out.items ≡ l.fn.out.items ++ flat_map escaped_utf8 (take l.octet-index l.text)
