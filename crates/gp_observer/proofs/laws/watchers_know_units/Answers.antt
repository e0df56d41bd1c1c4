use Rattle.gp_observer.proofs.Overhearing.{watchers_know, watchers_know_midway}
use Rattle.gp_observer.proofs.laws.watchers_know_units.Goals as goal

pub returns : goal.returns
returns c = record { whole = watchers_know c.one_outcome.ensures.hears; midway = watchers_know_midway c.one_outcome.ensures.hears }
