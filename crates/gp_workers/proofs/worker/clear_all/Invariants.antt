use Rattle.std.proofs.Common.{◌≡◌, ◌<◌, ℕ, get_or, []}
use Rattle.gp_workers.specs.Chassis.{WorkerState}
use Rattle.gp_workers.proofs.worker.clear_all.Given as goal

abbrev pub invariant-loop-worker : goal.invariant-loop-worker
invariant-loop-worker g l = (place : ℕ) (default : WorkerState) → place < l.worker-index → (get_or l.workers place default).receipts ≡ []
