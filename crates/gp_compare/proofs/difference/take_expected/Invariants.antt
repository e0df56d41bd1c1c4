use Rattle.gp_compare.specs.Reading.{Showing}
use Rattle.gp_compare.specs.Shown.{shown_view}
use Rattle.gp_compare.proofs.difference.take_expected.Given as goal

abbrev pub invariant-reads : goal.invariant-reads
invariant-reads g l = Showing l.fn.ahead l.ahead (shown_view l.fn.line) (shown_view l.line)

abbrev pub decreases-reads : goal.decreases-reads
decreases-reads g l = l.ahead.source.left
