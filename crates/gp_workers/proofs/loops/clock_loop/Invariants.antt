use Rattle.std.proofs.Common.{◌≡◌, length, take}
use Rattle.gp_workers.specs.Asked.{Extends, frames_of}
use Rattle.gp_workers.proofs.loops.clock_loop.Given as goal

abbrev pub invariant-loop-port : goal.invariant-loop-port
invariant-loop-port g l = record {
  start : l.start ≡ length l.initial.worker.receipts;
  sofar : Extends l.initial.worker.receipts l.worker.receipts (frames_of (take l.port-index l.pairs));
}
