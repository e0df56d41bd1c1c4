use Rattle.gp_replay.proofs.PlayingLemmas.{chassis_keeps_on}
use Rattle.gp_replay.proofs.playing.PlayerEventPlayer.play_event.Goals as goal

pub returns-clause-keeps : goal.returns-clause-keeps
returns-clause-keeps g c = chassis_keeps_on c.args.out.now.mask c.args.event.now _ _ _ _ _ _ c.play_event.ensures.ports c.play_event.ensures.plays
