use Rattle.std.proofs.Common.{◌≡◌, ◌≤◌, ◌-◌}
use Rattle.gp_fibre.specs.Schedule.{FramesRun}
use Rattle.gp_replay.specs.Out.{KeepsOut}
use Rattle.gp_replay.specs.WorldWriting.{HasFibreRoom, Numbered}
use Rattle.gp_replay.proofs.PlayLemmas.{Stands}
use Rattle.gp_replay.proofs.world_playing.play_frames.Given as goal

abbrev pub invariant-loop-left : goal.invariant-loop-left
invariant-loop-left g l = record {
  played : Stands l.initial.out.mask (Numbered (FramesRun l.fn.losses.copies l.fn.losses.bursts (l.frames - l.left))) l.initial.player l.player l.initial.out.sink.now l.out.sink.now;
  few : l.left ≤ l.frames;
  room : HasFibreRoom l.left l.player;
  same : l.losses ≡ l.fn.losses;
  lent : KeepsOut l.initial.out l.out;
}

abbrev pub decreases-loop-left : goal.decreases-loop-left
decreases-loop-left g l = l.left
