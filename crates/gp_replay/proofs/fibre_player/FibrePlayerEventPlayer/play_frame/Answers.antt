use Rattle.gp_script.specs.declared.script.ScriptEvent.TheVariants.{Frames}
use Rattle.gp_replay.specs.WorldPlay.{WorldTakes}
use Rattle.gp_replay.specs.WorldWriting.{Numbered, WorldTakesPart, lost_by}
use Rattle.gp_replay.proofs.PlayingLemmas.{fibre_keeps_on, loses, loses_made}
use Rattle.gp_replay.proofs.fibre_player.FibrePlayerEventPlayer.play_frame.Goals as goal

pub returns-clause-plays : goal.returns-clause-plays
returns-clause-plays g c =
    let frame = Frames c.args._port 1 in
    rw (← c.self.view_is, c.play_one_world_frame.ensures.losses)
    (loses c.args.out.now.mask (λ losses. Numbered (WorldTakes losses frame)) (λ losses. Numbered (WorldTakesPart losses frame)) (lost_by c.self.inside.losses) _ _ _ _ _
    c.play_one_world_frame.ensures.plays)

pub returns-clause-made : goal.returns-clause-made
returns-clause-made g c =
    let frame = Frames c.args._port 1 in
    rw (← c.self.view_is, c.play_one_world_frame.ensures.losses)
    (loses_made c.args.out.now.mask c.args.grant (λ losses. Numbered (WorldTakes losses frame)) (lost_by c.self.inside.losses) _ _ _ _ _ c.play_one_world_frame.ensures.made)

pub returns-clause-keeps : goal.returns-clause-keeps
returns-clause-keeps g c =
    rw (← c.self.view_is, c.play_one_world_frame.ensures.losses) (fibre_keeps_on c.args.out.now.mask (Frames c.args._port 1) _ (lost_by c.self.inside.losses) _ _ _ _ _ c.play_one_world_frame.ensures.plays)
