use Rattle.gp_flow.proofs.ServeLemmas.{ended_answers, handed_short, handed_long}
use Rattle.gp_flow.proofs.open_line.answer.Goals as goal

pub returns-then-line-limit : goal.returns-then-line-limit
returns-then-line-limit g c = ended_answers _ _ _ _ _ _ _ _ _ (handed_short _ _ c.if-line-limit.true) c.line.ensures

pub returns-else-line-limit : goal.returns-else-line-limit
returns-else-line-limit g c = ended_answers _ _ _ _ _ _ _ _ _ (handed_long _ _ c.if-line-limit.false) c.long_line.ensures
