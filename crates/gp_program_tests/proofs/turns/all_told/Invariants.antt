use Rattle.std.proofs.Common.{◌<◌, ◌-◌, length}
use Rattle.gp_replay.specs.Chassis.{HasRoom}
use Rattle.gp_program_tests.proofs.turns.all_told.Given as goal

abbrev pub invariant-loop-place : goal.invariant-loop-place
invariant-loop-place g l = record {
  port : 0 < length l.player.next;
  room : HasRoom (18 - l.place) l.player;
}
