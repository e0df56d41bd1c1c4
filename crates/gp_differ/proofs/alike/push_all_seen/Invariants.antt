use Rattle.std.proofs.Common.{◌≡◌, ◌++◌, take}
use Rattle.std.specs.List.{flat_map}
use Rattle.gp_differ.specs.Alike.{seen}
use Rattle.gp_differ.proofs.alike.push_all_seen.Given as goal

abbrev pub invariant-octets : goal.invariant-octets
invariant-octets l = l.out.items ≡ l.fn.out.items ++ flat_map seen (take l.octet-index l.text)
