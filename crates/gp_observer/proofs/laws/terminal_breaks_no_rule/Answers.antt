use Rattle.gp_observer.proofs.HearingRuns.{every_run, breaks_no_rule}
use Rattle.gp_observer.proofs.Midway.{breaks_no_rule_midway}
use Rattle.gp_observer.proofs.laws.terminal_breaks_no_rule.Goals as goal

pub returns : goal.returns
returns c = record { heard = every_run; none = breaks_no_rule c.one_outcome.ensures.hears; midway = breaks_no_rule_midway c.one_outcome.ensures.hears }
