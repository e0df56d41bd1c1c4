use Rattle.std.proofs.Common.{◌≡◌, ◌+◌, [], All, length}
use Rattle.gp_storm.specs.Plan.{frame_count}
use Rattle.gp_storm.specs.Rounds.{IsSoFar}
use Rattle.gp_storm.proofs.rounds.rounds.Given as goal

abbrev pub invariant-loop : goal.invariant-loop
invariant-loop g l = record {
  chassis : l.between.chassis ≡ l.fn.between.chassis;
  fresh : All (λ worker. worker.receipts ≡ []) l.between.workers.items;
  told : IsSoFar l.fn.between.chassis.configs l.so_far.ends.items l.so_far.totals;
  frames : l.so_far.totals.frames + frame_count l.left.frames.items ≡ frame_count l.fn.left.frames.items;
  commands : l.so_far.totals.commands + length l.left.commands.now ≡ length l.fn.left.commands.now;
}
