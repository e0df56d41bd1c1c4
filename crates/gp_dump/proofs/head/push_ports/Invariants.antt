use Rattle.std.proofs.Common.{◌≡◌, ◌++◌, drop}
use Rattle.gp_dump.specs.Head.{ports_text}
use Rattle.gp_dump.proofs.head.push_ports.Given as goal

abbrev pub invariant-ports : goal.invariant-ports
invariant-ports l = l.out.items ++ ports_text l.port (drop l.port l.ports) ≡ l.fn.out.items ++ ports_text 0 l.ports
