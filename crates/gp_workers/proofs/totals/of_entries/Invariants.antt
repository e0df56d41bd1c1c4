use Rattle.std.proofs.Common.{take}
use Rattle.gp_workers.specs.Totals.{CountsOf, AtMost}
use Rattle.gp_workers.proofs.totals.of_entries.Given as goal

abbrev pub invariant-loop-entry : goal.invariant-loop-entry
invariant-loop-entry l = record {
  counts : CountsOf l.all (take l.entry-index l.entries);
  most : AtMost l.all l.entry-index;
}
