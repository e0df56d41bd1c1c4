use Rattle.std.proofs.Common.{◌≡◌}
use Rattle.std.specs.Prelude.{◌≤◌, All, vec_capacity}
use Rattle.gp_fibre.specs.Schedule.{FramesRun, IsProperEntry}
use Rattle.gp_fibre.proofs.world.World.run_into.Given as goal

abbrev pub invariant-loop : goal.invariant-loop
invariant-loop g l = record {
  ran : FramesRun l.fn.losses.copies l.fn.losses.bursts l.counter l.fn.self l.entries.items l.self;
  proper : All IsProperEntry l.entries.items;
  capacity : vec_capacity l.fn.entries ≤ vec_capacity l.entries;
  losses : l.losses ≡ l.fn.losses;
}
