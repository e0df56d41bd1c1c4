use Rattle.std.proofs.Common.{◌≡◌, ℕ, length, take}
use Rattle.std.specs.List.{flat_map}
use Rattle.gp_storm.specs.Plan.{burst_of, bursts_at, command_of, frames_of}
use Rattle.gp_storm.proofs.plan.plan_of.Given as goal

abbrev pub invariant-loop-event : goal.invariant-loop-event
invariant-loop-event l = record {
  ports : length l.plan.bursts.items ≡ length l.script.ports.items;
  bursts : (port : ℕ) → bursts_at port l.plan ≡ flat_map (burst_of port) (take l.event-index l.script.events.items);
  frames : l.plan.frames.items ≡ flat_map frames_of (take l.event-index l.script.events.items);
  commands : l.plan.commands.items ≡ flat_map command_of (take l.event-index l.script.events.items);
}
