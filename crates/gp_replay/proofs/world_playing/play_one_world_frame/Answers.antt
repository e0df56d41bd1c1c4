use Rattle.gp_replay.proofs.PlayingLemmas.{makes_told}
use Rattle.gp_replay.proofs.world_playing.play_one_world_frame.Goals as goal

pub returns-clause-made : goal.returns-clause-made
returns-clause-made g c =
    makes_told c.args.out.now.mask c.args.grant c.play_few_frames.new.entries.items c.has_grant.result _ _ _ _ _ (rw c.as_slice.ensures.value at c.has_grant.ensures)
    c.in_ok-play_few_frames.ensures.told
