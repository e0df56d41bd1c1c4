use Rattle.std.proofs.Common.{◌∙◌, sym}
use Rattle.gp_drive.proofs.AnswerLemmas.{answers_missing, answers_there}
use Rattle.gp_drive.proofs.driver.Driver.answer.Goals as goal

pub returns-in-Some-clause-answers : goal.returns-in-Some-clause-answers
returns-in-Some-clause-answers g c =
    let missing = sym (rw (c.ports.ensures, c.units.ensures) at c.missing_in.ensures) ∙ c.in-Some.is in
    answers_missing g.P.EventPlayer.playing c.args.asked c.in-Some.fault _ _ _ _ _ (rw (← c.self.view_is) missing) c.refuse.ensures.answers

pub returns-in-None-clause-answers : goal.returns-in-None-clause-answers
returns-in-None-clause-answers g c =
    let there = sym (rw (c.ports.ensures, c.units.ensures) at c.missing_in.ensures) ∙ c.in-None.is in
    answers_there g.P.EventPlayer.playing c.args.asked _ _ _ _ _ (rw (← c.self.view_is) there) c.play.ensures.answers
