use Rattle.std.proofs.Common.{arith, refl, rules, ◌≡◌, ◌+◌}
use Rattle.gp_replay.proofs.PlayLemmas.{stands_at_first, stands_on, stands_whole, stops_on}
use Rattle.gp_replay.proofs.PlayingLemmas.{keeps_none, keeps_on}
use Rattle.gp_drive.proofs.TurnLemmas.{another, cut_off, found, never_found, no_frames, plays_told, stands_as}
use Rattle.gp_drive.proofs.turn.play_until.Goals as goal

pub loop-init : goal.loop-init
loop-init g c = record {
  played = stands_at_first _ _ _ _ (no_frames g.P.EventPlayer.playing c.args.port c.args.grant c.args.player.now);
  keeps = keeps_none g.P.EventPlayer.playing c.args.player.now;
  same = (refl, refl, refl);
}

pub returns-in_err-play_frame-clause-plays : goal.returns-in_err-play_frame-clause-plays
returns-in_err-play_frame-clause-plays g c =
    stops_on c.args.out.now.mask _ _ _ _ _ (cut_off g.P.EventPlayer.playing c.args.port c.args.grant c.loop.counter c.args.most c.loop-test.true) _ _ _ _ _ _ _ _
    c.loop.invariant.played (rw c.loop.invariant.same.0 at c.in_err-play_frame.ensures.plays) c.from_residual.ensures.1

pub returns-then-branch-clause-plays : goal.returns-then-branch-clause-plays
returns-then-branch-clause-plays g c =
    let done = c.in_ok-play_frame.ensures in
    stands_whole c.args.out.now.mask _ _ _ _ _ _ _
    (stands_on c.args.out.now.mask _ _ _ _ (found g.P.EventPlayer.playing c.args.port c.args.grant c.loop.counter c.args.most _ c.if-branch.true c.loop-test.true) _ _ _ _ _ _ _
    c.loop.invariant.played (plays_told c.args.out.now.mask _ _ _ _ _ _ _ _ (rw c.loop.invariant.same.0 at done.plays) (rw c.loop.invariant.same.0 at done.made)))

pub loop-preserved : goal.loop-preserved
loop-preserved g c =
    let done = c.in_ok-play_frame.ensures in record {
      played = stands_on c.args.out.now.mask _ _ _ _ (another g.P.EventPlayer.playing c.args.port c.args.grant c.loop.counter _ c.if-branch.false) _ _ _ _ _ _ _
          c.loop.invariant.played (plays_told c.args.out.now.mask _ _ _ _ _ _ _ _ (rw c.loop.invariant.same.0 at done.plays) (rw c.loop.invariant.same.0 at done.made));
      keeps = keeps_on g.P.EventPlayer.playing c.loop.counter 1 (c.loop.counter + 1) _ _ _ (omega arith) c.loop.invariant.keeps done.keeps;
      same = search rules;
    }

pub returns-clause-plays : goal.returns-clause-plays
returns-clause-plays g c =
    let few = c.loop-test.false in
    let within = c.loop.auto.counter-end in
    let all : c.loop.counter ≡ c.args.most = omega arith in
    stands_whole c.args.out.now.mask _ _ _ _ _ _ _
    (stands_as c.args.out.now.mask _ _ _ _ _ _ (λ rs h. never_found g.P.EventPlayer.playing c.args.port c.args.grant c.loop.counter c.args.most _ _ rs all h) c.loop.invariant.played)
