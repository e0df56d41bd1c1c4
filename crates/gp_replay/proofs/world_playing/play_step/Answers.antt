use Rattle.std.proofs.Common.{[], ◌∷◌, inl, refl}
use Rattle.gp_replay.specs.WorldPlay.{TakesStep, receipt_with}
use Rattle.gp_replay.specs.WorldWriting.{MayTakeStep, Numbered}
use Rattle.gp_replay.proofs.PlayLemmas.{hands_in, one_line, plays_lines, plays_silent, stops_at_first, stops_in_lines}
use Rattle.gp_replay.proofs.WorldLemmas.{numbered_none, step_happens, step_may, step_silent}
use Rattle.gp_replay.proofs.world_playing.play_step.Goals as goal

pub returns-in_err-given-clause-plays : goal.returns-in_err-given-clause-plays
returns-in_err-given-clause-plays g c =
    stops_at_first c.args.out.now.mask (Numbered (TakesStep c.args.step)) (Numbered (MayTakeStep c.args.step)) c.args.player.now _ c.args.out.now.sink.now _
    (numbered_none (MayTakeStep c.args.step) c.args.player.now (λ w. inl (refl, refl))) c.from_residual.ensures.1

pub returns-in_err-write_entry-clause-plays : goal.returns-in_err-write_entry-clause-plays
returns-in_err-write_entry-clause-plays g c =
    let receipt = receipt_with c.take_step.new.self.next c.in-Some.entry in
    let taken = step_happens c.args.step c.in_ok-given.given c.in-Some.entry c.args.player.now c.take_step.new.self c.write_entry.new.player c.in_ok-given.ensures.taken c.in-Some.is
    c.in_ok-given.ensures.next c.in_err-write_entry.ensures.world c.in_err-write_entry.ensures.next in
    stops_in_lines c.args.out.now.mask (Numbered (TakesStep c.args.step)) (Numbered (MayTakeStep c.args.step)) c.args.player.now c.write_entry.new.player _ (receipt ∷ []) _ _ _ _
    (step_may _ _ _ _ taken) (one_line c.args.out.now.mask receipt _ _ _ (hands_in _ _ _ _ c.in_err-write_entry.ensures.gives)) c.from_residual-in_err-write_entry.ensures.1

pub returns-in_ok-write_entry-clause-plays : goal.returns-in_ok-write_entry-clause-plays
returns-in_ok-write_entry-clause-plays g c =
    let receipt = receipt_with c.take_step.new.self.next c.in-Some.entry in
    let taken = step_happens c.args.step c.in_ok-given.given c.in-Some.entry c.args.player.now c.take_step.new.self c.write_entry.new.player c.in_ok-given.ensures.taken c.in-Some.is
    c.in_ok-given.ensures.next c.in_ok-write_entry.ensures.world c.in_ok-write_entry.ensures.next in
    plays_lines c.args.out.now.mask (Numbered (TakesStep c.args.step)) (Numbered (MayTakeStep c.args.step)) c.args.player.now c.write_entry.new.player (receipt ∷ []) _ _ _ _
    taken (one_line c.args.out.now.mask receipt _ _ _ (hands_in _ _ _ _ c.in_ok-write_entry.ensures.gives))

pub returns-in_default-clause-plays : goal.returns-in_default-clause-plays
returns-in_default-clause-plays g c =
    plays_silent c.args.out.now.mask (Numbered (TakesStep c.args.step)) (Numbered (MayTakeStep c.args.step)) c.args.player.now c.take_step.new.self c.args.out.now.sink.now tt
    (step_silent c.args.step c.in_ok-given.given c.args.player.now c.take_step.new.self c.in_ok-given.ensures.taken c.in_default.is c.in_ok-given.ensures.next)
