use Rattle.std.proofs.Common.{rules}
use Rattle.gp_onu.proofs.unit.Unit.may_answer.Goals as goal

pub returns-in-Search-clause-value : goal.returns-in-Search-clause-value
returns-in-Search-clause-value c = search rules

pub returns-in-Search-clause-unanswered : goal.returns-in-Search-clause-unanswered
returns-in-Search-clause-unanswered c = search rules
