use Rattle.std.proofs.Common.{rules, refl, arith, ◌≤◌, ◌+◌, length, replicate}
use Rattle.std.proofs.lemmas.List.{length-replicate}
use Rattle.gp_replay.specs.Play.{frame_turn}
use Rattle.gp_replay.proofs.PlayLemmas.{stands_at_first, stands_on, stops_on}
use Rattle.gp_replay.proofs.RunLemmas.{no_turns}
use Rattle.gp_replay.proofs.TurnLemmas.{frames_more, frames_rest, some_turns_join, turns_join}
use Rattle.gp_replay.proofs.RoomLemmas.{room_left}
use Rattle.gp_replay.proofs.playing.play_frames.Goals as goal

pub loop-init : goal.loop-init
loop-init g c = record { played = stands_at_first _ _ _ _ (no_turns c.args.player.now); ports = refl; same = (refl, refl, refl) }

pub play_turn-requires-clause-room : goal.play_turn-requires-clause-room
play_turn-requires-clause-room g c =
    let within : length (replicate c.loop.counter (frame_turn c.args.port)) + 1 ≤ c.args.count = omega (arith, length-replicate c.loop.counter (frame_turn c.args.port), c.loop-test.true) in
    room_left 1 c.args.count _ _ _ _ c.loop.invariant.played.written.happened within c.requires.room

pub returns-in_err-play_turn-clause-plays : goal.returns-in_err-play_turn-clause-plays
returns-in_err-play_turn-clause-plays g c =
    stops_on c.args.out.now.mask _ _ _ _ _ (some_turns_join _ _ _ _ (frames_rest c.loop.counter c.args.count (frame_turn c.args.port) c.loop-test.true)) _ _ _ _ _ _ _ _
    c.loop.invariant.played (rw c.loop.invariant.same.0 at c.in_err-play_turn.ensures.plays) c.from_residual.ensures.1

pub loop-preserved : goal.loop-preserved
loop-preserved g c = record {
  played = stands_on c.args.out.now.mask _ _ _ _ (turns_join _ _ _ (frames_more c.loop.counter (frame_turn c.args.port))) _ _ _ _ _ _ _ c.loop.invariant.played (rw c.loop.invariant.same.0 at c.in_ok-play_turn.ensures.plays);
  ports = search rules;
  same = search rules;
}
