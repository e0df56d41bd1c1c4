use Rattle.std.proofs.Common.{rules}
use Rattle.gp_unit.proofs.row.Row.count_poll.Goals as goal

pub returns-clause-counts : goal.returns-clause-counts
returns-clause-counts c = search rules

pub returns-clause-alarm : goal.returns-clause-alarm
returns-clause-alarm c = search rules

pub returns-clause-goes_on : goal.returns-clause-goes_on
returns-clause-goes_on c = search rules
