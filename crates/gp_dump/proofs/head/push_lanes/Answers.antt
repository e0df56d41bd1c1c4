use Rattle.std.proofs.Common.{rules}
use Rattle.gp_dump.proofs.HeadLemmas.{lanes_more}
use Rattle.gp_dump.proofs.head.push_lanes.Goals as goal

pub lanes-preserved : goal.lanes-preserved
lanes-preserved c = lanes_more c.args.port c.lanes.lane c.args.out.now.items c.lanes.out.items c.push_lane.new.out.items c.lanes.invariant (search rules)
