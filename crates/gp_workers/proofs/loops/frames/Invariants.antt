use Rattle.gp_workers.specs.Asked.{Extends, frames_on}
use Rattle.gp_workers.proofs.loops.frames.Given as goal

abbrev pub invariant-loop : goal.invariant-loop
invariant-loop g l = Extends l.initial.worker.receipts l.worker.receipts (frames_on l.port l.counter)
