use Rattle.std.proofs.Common.{◌+◌, length, arith, refl, subst, ◌∙◌}
use Rattle.gp_fibre.specs.Forgetting.{WorldForgets}
use Rattle.gp_fibre.specs.Schedule.{FramesRun, WorldState}
use Rattle.gp_replay.specs.WorldPlay.{receipts_from}
use Rattle.gp_replay.specs.WorldWriting.{Numbered, TakesSomeFrames, lost_by}
use Rattle.gp_replay.proofs.PlayLemmas.{plays_lines, stops_at_first, stops_in_lines}
use Rattle.gp_replay.proofs.PlayingLemmas.{frames_told}
use Rattle.gp_replay.proofs.WorldLemmas.{frames_happen, numbered_none, some_frames_happen}
use Rattle.gp_replay.proofs.WorldRoomLemmas.{entries_fit}
use Rattle.gp_replay.proofs.world_playing.play_few_frames.Goals as goal

pub write_entries-requires-clause-room : goal.write_entries-requires-clause-room
write_entries-requires-clause-room g c =
    rw c.as_slice.ensures.value
    (entries_fit c.args.losses.now.copies c.args.losses.now.bursts c.args.frames c.run_frames.new.self.next c.args.player.now c.run_frames.new.self.world c.run_frames.new.entries.items c.in_ok-run_frames.ensures.next
    c.requires.room c.in_ok-run_frames.ensures.ran)

pub returns-in_err-run_frames-clause-plays : goal.returns-in_err-run_frames-clause-plays
returns-in_err-run_frames-clause-plays g c =
    let losses = lost_by c.args.losses.now in
    stops_at_first c.args.out.now.mask (Numbered (FramesRun losses.copies losses.bursts c.args.frames)) (Numbered (TakesSomeFrames losses c.args.frames)) c.args.player.now _ c.args.out.now.sink.now _
    (numbered_none (TakesSomeFrames losses c.args.frames) c.args.player.now (λ w. (0, omega arith, (refl, refl)))) c.from_residual.ensures.1

pub returns-in_err-write_entries-clause-plays : goal.returns-in_err-write_entries-clause-plays
returns-in_err-write_entries-clause-plays g c =
    let losses = lost_by c.args.losses.now in
    let mid = c.run_frames.new.self in
    let entries = c.run_frames.new.entries.items in
    stops_in_lines c.args.out.now.mask (Numbered (FramesRun losses.copies losses.bursts c.args.frames)) (Numbered (TakesSomeFrames losses c.args.frames)) c.args.player.now
    (record { world = mid.world; next = mid.next + length entries }) _ (receipts_from mid.next entries) _ _ _ _
    (some_frames_happen losses c.args.frames entries c.args.player.now mid c.in_ok-run_frames.ensures.ran c.in_ok-run_frames.ensures.next)
    (rw c.as_slice.ensures.value at c.in_err-write_entries.ensures.hands) c.from_residual-in_err-write_entries.ensures.1

pub returns-clause-plays : goal.returns-clause-plays
returns-clause-plays g c =
    let losses = lost_by c.args.losses.now in
    let mid = c.run_frames.new.self in
    let entries = c.run_frames.new.entries.items in
    plays_lines c.args.out.now.mask (Numbered (FramesRun losses.copies losses.bursts c.args.frames)) (Numbered (TakesSomeFrames losses c.args.frames)) c.args.player.now
    c.forget.new.self (receipts_from mid.next entries) _ _ _ _
    (frames_happen losses c.args.frames entries c.args.player.now mid c.forget.new.self c.in_ok-run_frames.ensures.ran c.in_ok-run_frames.ensures.next
    (subst (λ (w : WorldState). WorldForgets w c.forget.new.self.world) c.in_ok-write_entries.ensures.world c.forget.ensures.world)
    (c.forget.ensures.next ∙ rw c.as_slice.ensures.value at c.in_ok-write_entries.ensures.next))
    (rw c.as_slice.ensures.value at c.in_ok-write_entries.ensures.hands)

pub returns-clause-told : goal.returns-clause-told
returns-clause-told g c =
    let losses = lost_by c.args.losses.now in
    let mid = c.run_frames.new.self in
    let entries = c.run_frames.new.entries.items in
    frames_told c.args.out.now.mask entries (FramesRun losses.copies losses.bursts c.args.frames) c.args.player.now c.forget.new.self mid.next _ _ _
    (frames_happen losses c.args.frames entries c.args.player.now mid c.forget.new.self c.in_ok-run_frames.ensures.ran c.in_ok-run_frames.ensures.next
    (subst (λ (w : WorldState). WorldForgets w c.forget.new.self.world) c.in_ok-write_entries.ensures.world c.forget.ensures.world)
    (c.forget.ensures.next ∙ rw c.as_slice.ensures.value at c.in_ok-write_entries.ensures.next))
    (rw c.as_slice.ensures.value at c.in_ok-write_entries.ensures.hands)
