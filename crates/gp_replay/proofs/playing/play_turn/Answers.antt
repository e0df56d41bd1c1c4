use Rattle.std.proofs.Common.{[], ◌∷◌, refl}
use Rattle.gp_machine.specs.declared.entry.Receipt.{Receipt}
use Rattle.gp_replay.specs.Play.{TakesAllTurns, TakesSomeTurns}
use Rattle.gp_replay.proofs.PlayLemmas.{hands_in, one_line, plays_lines, stops_in_lines}
use Rattle.gp_replay.proofs.TurnLemmas.{takes_all}
use Rattle.gp_replay.proofs.playing.play_turn.Goals as goal

pub returns-in_err-entry-clause-plays : goal.returns-in_err-entry-clause-plays
returns-in_err-entry-clause-plays g c =
    let turns = c.args.turn ∷ [] in
    let receipt : Receipt = record { port = c.args.turn.port; number = c.serve-number.result; entry = c.serve-number.new.entry } in
    let lines = one_line c.args.out.now.mask receipt _ _ _ (hands_in _ _ _ _ c.in_err-entry.ensures.puts.gives) in
    stops_in_lines c.args.out.now.mask (TakesAllTurns turns) (TakesSomeTurns turns) c.args.player.now c.serve-number.new.self _ (receipt ∷ []) _ _ _ _
    (takes_all turns _ _ _ c.serve-number.ensures.taken) lines c.from_residual.ensures.1

pub returns-clause-plays : goal.returns-clause-plays
returns-clause-plays g c =
    let turns = c.args.turn ∷ [] in
    let receipt : Receipt = record { port = c.args.turn.port; number = c.serve-number.result; entry = c.serve-number.new.entry } in
    let lines = one_line c.args.out.now.mask receipt _ _ _ (hands_in _ _ _ _ c.in_ok-entry.ensures.puts.gives) in
    plays_lines c.args.out.now.mask (TakesAllTurns turns) (TakesSomeTurns turns) c.args.player.now c.serve-number.new.self (receipt ∷ []) _ _ _ _ c.serve-number.ensures.taken lines

pub returns-clause-made : goal.returns-clause-made
returns-clause-made g c =
    let receipt : Receipt = record { port = c.args.turn.port; number = c.serve-number.result; entry = c.serve-number.new.entry } in
    let lines = one_line c.args.out.now.mask receipt _ _ _ (hands_in _ _ _ _ c.in_ok-entry.ensures.puts.gives) in
    record {
      receipt = receipt;
      grant_is = refl;
      written = record {
        receipts = receipt ∷ [];
        happened = (c.serve-number.ensures.taken, refl);
        lines = lines.ok;
      };
    }
