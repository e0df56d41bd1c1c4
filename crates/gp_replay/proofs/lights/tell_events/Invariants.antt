use Rattle.std.proofs.Common.{◌*◌, ◌^◌, take}
use Rattle.gp_replay.specs.Lights.{TellsAll}
use Rattle.gp_replay.specs.Out.{KeepsOut}
use Rattle.gp_replay.specs.Playing.{Keeps}
use Rattle.gp_replay.proofs.LightLemmas.{StandsSaid}
use Rattle.gp_replay.proofs.lights.tell_events.Given as goal

abbrev pub invariant-events : goal.invariant-events
invariant-events g l = record {
  said : StandsSaid (TellsAll l.initial.lights l.initial.out.mask g.P.EventPlayer.playing (take l.event-index l.events)) l.initial.player l.player l.initial.out.sink.now l.out.sink.now;
  keeps : Keeps g.P.EventPlayer.playing (l.event-index * 2 ^ 32) l.initial.player l.player;
  same : KeepsOut l.initial.out l.out;
}
