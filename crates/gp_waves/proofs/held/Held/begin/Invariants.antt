use Rattle.std.proofs.Common.{◌≡◌}
use Rattle.std.specs.Prelude.{replicate}
use Rattle.gp_waves.specs.Queue.{no_queue}
use Rattle.gp_waves.proofs.held.Held.begin.Given as goal

abbrev pub invariant-queues : goal.invariant-queues
invariant-queues l = l.queues.items ≡ replicate l._count no_queue
