use Rattle.std.proofs.Common.{sym, subst}
use Rattle.gp_lines.specs.declared.turn.Asked.{Asked}
use Rattle.gp_replay.specs.Writing.{PlaysOn}
use Rattle.gp_drive.specs.Turns.{PlaysTo, PlaysTurnPart, told_by}
use Rattle.gp_drive.proofs.turn.play_turn.Goals as goal

pub returns-in-Until-clause-plays : goal.returns-in-Until-clause-plays
returns-in-Until-clause-plays g c =
    let playing = g.P.EventPlayer.playing in
    subst
    (λ (turn : Asked).
    PlaysOn c.args.out.now.mask (PlaysTo playing turn (told_by c.play_until.result)) (PlaysTurnPart playing turn) c.args.player.now c.play_until.new.player c.args.out.now.sink.now
    c.play_until.new.out.sink.now c.play_until.result)
    (sym c.in-Until.is) c.play_until.ensures.plays
