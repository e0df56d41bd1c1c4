use Rattle.std.proofs.Common.{◌≡◌, take}
use Rattle.gp_workers.specs.Asked.{Extends, commands_of}
use Rattle.gp_workers.proofs.loops.operator_loop.Given as goal

abbrev pub invariant-loop-port : goal.invariant-loop-port
invariant-loop-port g l = record {
  sofar : Extends l.initial.worker.receipts l.worker.receipts (commands_of (take l.port-index l.commands));
  count : l.count ≡ l.port-index;
}
