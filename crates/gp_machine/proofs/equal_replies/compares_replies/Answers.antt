use Rattle.gp_machine.proofs.EqualAnswers.{same_replies, same_rows}
use Rattle.gp_machine.proofs.equal_replies.compares_replies.Goals as goal

pub returns : goal.returns
returns c = record { rows = same_rows; replies = same_replies }
