use Rattle.gp_lines.specs.declared.fault.LineFault.TheVariants.{Long}
use Rattle.gp_drive.specs.declared.fault.TurnFault.TheVariants.{NoTurn}
use Rattle.std.proofs.Common.{None}
use Rattle.gp_drive.proofs.AnswerLemmas.{answers_long}
use Rattle.gp_drive.proofs.driver.DriverLineWork.long_line.Goals as goal

pub returns : goal.returns
returns g c = answers_long g.P.EventPlayer.playing (NoTurn Long) None _ _ _ _ _ (λ said next h. h) (λ h. h) c.refuse.ensures.answers
