use Rattle.std.proofs.Common.{◌≡◌, ◌≤◌, vec_len}
use Rattle.std.specs.Prelude.{vec_capacity}
use Rattle.gp_storm.specs.Rounds.{ends_of}
use Rattle.gp_storm.proofs.so_far.ends_of_pieces.Given as goal

abbrev pub invariant-loop-piece : goal.invariant-loop-piece
invariant-loop-piece l = record {
  made : l.ends.items ≡ ends_of l.yielded;
  room : vec_len l.fn.pieces ≤ vec_capacity l.ends;
}
