use Rattle.std.proofs.Common.{◌≡◌, ◌≤◌, length, map, take, vec_capacity}
use Rattle.gp_replay.specs.WorldPlay.{plan_of}
use Rattle.gp_replay.proofs.world_player.plans_of.Given as goal

abbrev pub invariant-loop-unit : goal.invariant-loop-unit
invariant-loop-unit l = record {
  planned : l.plans.items ≡ map plan_of (take l.unit-index l.units);
  room : length l.units ≤ vec_capacity l.plans;
}
