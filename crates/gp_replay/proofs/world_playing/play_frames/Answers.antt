use Rattle.std.proofs.Common.{◌≡◌, ◌+◌, ◌-◌, ◌≤◌, ℕ, arith, refl, rules, subst, ◌∙◌}
use Rattle.gp_fibre.specs.Schedule.{FramesRun}
use Rattle.gp_replay.specs.WorldWriting.{Numbered, lost_by}
use Rattle.gp_replay.proofs.PlayLemmas.{Stands, stands_at_first, stands_on, stands_whole, stops_on}
use Rattle.gp_replay.proofs.WorldLemmas.{frames_join, no_frames, numbered_join, some_frames_join}
use Rattle.gp_replay.proofs.WorldRoomLemmas.{room_for_fewer, room_after_frames}
use Rattle.gp_replay.proofs.world_playing.play_frames.Goals as goal

pub loop-left-init : goal.loop-left-init
loop-left-init g c = record {
  played = stands_at_first _ _ _ _ (no_frames (lost_by c.args.losses.now) (c.args.frames - c.args.frames) c.args.player.now (omega arith));
  few = search rules;
  room = search rules;
  same = refl;
  lent = (refl, refl, refl);
}

pub play_few_frames-requires : goal.play_few_frames-requires
play_few_frames-requires g c =
    let few : c.min-few.result ≤ c.loop-left.left = search rules in
    record { room = room_for_fewer c.min-few.result c.loop-left.left c.loop-left.player few c.loop-left.invariant.room }

pub returns-in_err-play_few_frames-clause-plays : goal.returns-in_err-play_few_frames-clause-plays
returns-in_err-play_few_frames-clause-plays g c =
    let few : c.min-few.result ≤ c.loop-left.left = search rules in
    let within : c.loop-left.left ≤ c.args.frames = c.loop-left.invariant.few in
    let total : (c.args.frames - c.loop-left.left) + c.min-few.result ≤ c.args.frames = omega arith in
    stops_on c.args.out.now.mask _ _ _ _ _ (numbered_join _ _ _ (some_frames_join (lost_by c.args.losses.now) (c.args.frames - c.loop-left.left) c.min-few.result c.args.frames total)) _ _ _ _ _ _ _ _
    c.loop-left.invariant.played (rw (c.loop-left.invariant.same, c.loop-left.invariant.lent.0) at c.in_err-play_few_frames.ensures.plays) c.from_residual.ensures.1

pub loop-left-preserved : goal.loop-left-preserved
loop-left-preserved g c =
    let few : c.min-few.result ≤ c.loop-left.left = search rules in
    let within : c.loop-left.left ≤ c.args.frames = c.loop-left.invariant.few in
    let total : (c.args.frames - c.loop-left.left) + c.min-few.result ≡ c.args.frames - (c.loop-left.left - c.min-few.result) = omega arith in
    let rest : c.min-few.result + (c.loop-left.left - c.min-few.result) ≤ c.loop-left.left = omega arith in
    let plays = rw (c.loop-left.invariant.same, c.loop-left.invariant.lent.0) at c.in_ok-play_few_frames.ensures.plays in
    record {
      played = stands_on c.args.out.now.mask _ _ _ _
          (numbered_join _ _ _ (frames_join (lost_by c.args.losses.now) (c.args.frames - c.loop-left.left) c.min-few.result (c.args.frames - (c.loop-left.left - c.min-few.result)) total)) _ _ _ _ _ _ _
          c.loop-left.invariant.played plays;
      few = omega (arith, few, within);
      room = room_after_frames c.args.losses.now.copies c.args.losses.now.bursts c.min-few.result c.loop-left.left (c.loop-left.left - c.min-few.result) c.loop-left.player
          c.play_few_frames.new.player _ plays.ok.happened rest c.loop-left.invariant.room;
      same = c.in_ok-play_few_frames.ensures.losses ∙ c.loop-left.invariant.same;
      lent = search rules;
    }

pub returns-clause-plays : goal.returns-clause-plays
returns-clause-plays g c =
    let all : c.args.frames - c.loop-left.left ≡ c.args.frames = omega (arith, c.loop-left-test.false) in
    stands_whole _ _ _ _ _ _ _ _
    (subst (λ (n : ℕ). Stands c.args.out.now.mask (Numbered (FramesRun c.args.losses.now.copies c.args.losses.now.bursts n)) c.args.player.now c.loop-left.player c.args.out.now.sink.now c.loop-left.out.sink.now)
    all c.loop-left.invariant.played)
