use Rattle.hear_state.proofs.Sameness.{stays, runs, judged}
use Rattle.hear_state.proofs.laws.same_is_judged_same.Goals as goal

pub returns-clause-stays : goal.returns-clause-stays
returns-clause-stays c = stays

pub returns-clause-runs : goal.returns-clause-runs
returns-clause-runs c = runs

pub returns-clause-judged : goal.returns-clause-judged
returns-clause-judged c = judged
