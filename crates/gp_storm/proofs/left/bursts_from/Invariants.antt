use Rattle.std.proofs.Common.{◌≡◌, ◌≤◌, length, vec_len}
use Rattle.std.specs.Prelude.{vec_capacity}
use Rattle.gp_storm.proofs.left.bursts_from.Given as goal

abbrev pub invariant-loop-bursts : goal.invariant-loop-bursts
invariant-loop-bursts l = record {
  made : vec_len l.lists ≡ l.bursts-index;
  room : length l.bursts-items ≤ vec_capacity l.lists;
}
