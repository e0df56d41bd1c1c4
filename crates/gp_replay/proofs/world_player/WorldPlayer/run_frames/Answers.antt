use Rattle.std.proofs.Common.{subst, sym}
use Rattle.gp_replay.specs.WorldWriting.{FibrePlay, HasFibreRoom}
use Rattle.gp_replay.proofs.WorldRoomLemmas.{frames_limit}
use Rattle.gp_replay.proofs.world_player.WorldPlayer.run_frames.Goals as goal

pub unreachable-requires : goal.unreachable-requires
unreachable-requires g c =
    let limit = c.in-Err-Limit.field-0-is in
    let old : FibrePlay = record { world = c.self.inside.world; next = c.self.inside.next } in
    let room : HasFibreRoom c.args.frames old = subst (λ (p : FibrePlay). HasFibreRoom c.args.frames p) (sym c.self.view_is) c.requires.room in
    let memory = frames_limit c.args.losses.now.copies c.args.losses.now.bursts c.args.frames old c.in-Err-Limit.field-0 c.run_into.new.self room c.in-Err-Limit.ensures.stops in
    cc
