use Rattle.std.proofs.Common.{◌≡◌, ◌++◌}
use Rattle.gp_dump.specs.Head.{lanes_text}
use Rattle.gp_dump.proofs.head.push_lanes.Given as goal

abbrev pub invariant-lanes : goal.invariant-lanes
invariant-lanes l = l.out.items ≡ l.fn.out.items ++ lanes_text l.port l.lane
