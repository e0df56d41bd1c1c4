use Rattle.std.proofs.Common.{◌≡◌, ◌++◌, map, take}
use Rattle.oltctl.specs.Joined.{on_a_line}
use Rattle.oltctl.proofs.joined.push_on_a_line.Given as goal

abbrev pub invariant-octets : goal.invariant-octets
invariant-octets l = l.text.items ≡ l.initial.text.items ++ map on_a_line (take l.octet-index l.octet-items)
