use Rattle.std.proofs.Common.{◌≡◌, ◌++◌, map, take}
use Rattle.rtrb.specs.Ring.{sent}
use Rattle.gp_workers.specs.Ring.{in_ring}
use Rattle.gp_storm.proofs.feeder.feed.Given as goal

abbrev pub invariant-loop-burst : goal.invariant-loop-burst
invariant-loop-burst g l = sent l.producer ≡ sent l.initial.producer ++ map in_ring (take l.burst-index l.bursts)
