use Rattle.gp_replay.specs.Out.{KeepsOut}
use Rattle.gp_replay.specs.Playing.{Keeps}
use Rattle.gp_replay.proofs.PlayLemmas.{Stands}
use Rattle.gp_drive.proofs.TurnLemmas.{SomeFrames}
use Rattle.gp_drive.proofs.turn.play_until.Given as goal

abbrev pub invariant-loop : goal.invariant-loop
invariant-loop g l = record {
  played : Stands l.initial.out.mask (SomeFrames g.P.EventPlayer.playing l.port l.grant l.counter) l.initial.player l.player l.initial.out.sink.now l.out.sink.now;
  keeps : Keeps g.P.EventPlayer.playing l.counter l.initial.player l.player;
  same : KeepsOut l.initial.out l.out;
}
