use Rattle.gp_replay.specs.WorldPlay.{WorldTakes}
use Rattle.gp_replay.specs.WorldWriting.{Numbered, WorldTakesPart, lost_by}
use Rattle.gp_replay.proofs.PlayingLemmas.{fibre_keeps_on, loses}
use Rattle.gp_replay.proofs.fibre_player.FibrePlayerEventPlayer.play_event.Goals as goal

pub returns-clause-plays : goal.returns-clause-plays
returns-clause-plays g c =
    let event = c.args.event.now in
    rw (← c.self.view_is, c.play_world_event.ensures.losses)
    (loses c.args.out.now.mask (λ losses. Numbered (WorldTakes losses event)) (λ losses. Numbered (WorldTakesPart losses event)) (lost_by c.self.inside.losses) _ _ _ _ _
    c.play_world_event.ensures.plays)

pub returns-clause-keeps : goal.returns-clause-keeps
returns-clause-keeps g c =
    rw (← c.self.view_is, c.play_world_event.ensures.losses) (fibre_keeps_on c.args.out.now.mask c.args.event.now _ (lost_by c.self.inside.losses) _ _ _ _ _ c.play_world_event.ensures.plays)
