use Rattle.std.proofs.Common.{rules}
use Rattle.gp_workers.proofs.closing.Opened.check.Goals as goal

pub returns-clause-ok : goal.returns-clause-ok
returns-clause-ok g c = record {
  accounted = rw (c.as_slice.ensures.value, c.as_slice-2.ensures.value) at c.in_ok-reconcile.ensures.accounted;
  configured = search rules;
  balance = search rules;
}
