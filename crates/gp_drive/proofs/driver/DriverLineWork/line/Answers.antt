use Rattle.std.proofs.Common.{◌∙◌, Some, sym}
use Rattle.gp_drive.specs.declared.fault.TurnFault.TheVariants.{NoTurn}
use Rattle.gp_drive.proofs.AnswerLemmas.{answers_asked, answers_long}
use Rattle.gp_drive.proofs.driver.DriverLineWork.line.Goals as goal

pub returns-in-Err : goal.returns-in-Err
returns-in-Err g c =
    let is = rw c.mask.ensures at (sym c.parse_turn.ensures.value ∙ c.in-Err.is) in
    answers_long g.P.EventPlayer.playing (NoTurn c.in-Err.fault) (Some c.args.text.now) _ _ _ _ _ (λ said next h. rw is h) (λ h. rw is h) c.refuse.ensures.answers

pub returns-in-Ok : goal.returns-in-Ok
returns-in-Ok g c = answers_asked g.P.EventPlayer.playing c.in-Ok.asked c.args.text.now _ _ _ _ _ (rw c.mask.ensures at (sym c.parse_turn.ensures.value ∙ c.in-Ok.is)) c.answer.ensures.answers
