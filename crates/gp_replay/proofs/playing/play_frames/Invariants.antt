use Rattle.std.proofs.Common.{◌≡◌, replicate, length}
use Rattle.gp_replay.specs.Out.{KeepsOut}
use Rattle.gp_replay.specs.Play.{TakesAllTurns, frame_turn}
use Rattle.gp_replay.proofs.PlayLemmas.{Stands}
use Rattle.gp_replay.proofs.playing.play_frames.Given as goal

abbrev pub invariant-loop : goal.invariant-loop
invariant-loop g l = record {
  played : Stands l.initial.out.mask (TakesAllTurns (replicate l.counter (frame_turn l.port))) l.initial.player l.player l.initial.out.sink.now l.out.sink.now;
  ports : length l.player.next ≡ length l.initial.player.next;
  same : KeepsOut l.initial.out l.out;
}
