use Rattle.std.proofs.Common.{◌≡◌, length, take}
use Rattle.gp_storm.specs.Rounds.{GoOn}
use Rattle.gp_storm.proofs.so_far.go_on.Given as goal

abbrev pub invariant-loop-port : goal.invariant-loop-port
invariant-loop-port l = record {
  same : length l.ends ≡ length l.pieces;
  before : GoOn (take l.port l.ends) (take l.port l.pieces);
}
