use Rattle.gp_watch.proofs.Watching.{begun, indexed_first}
use Rattle.gp_watch.proofs.watch.PortWatch.begin.Goals as goal

pub invariant_of-result : goal.invariant_of-result
invariant_of-result c = rw (c.in_ok-tables.ensures, c.new.ensures) indexed_first

pub returns : goal.returns
returns c = rw (c.in_ok-tables.ensures, c.new.ensures, c.unknown_at_first.ensures) (begun c.args.midway)
