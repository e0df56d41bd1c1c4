use Rattle.std.proofs.Common.{◌≡◌, ◌≤◌, ℕ, List, length}
use Rattle.rtrb.specs.Ring.{known_items}
use Rattle.gp_workers.specs.declared.reader.RingItem.{RingItem}
use Rattle.gp_workers.specs.Ring.{GrowsByBursts, Midway, up_to_end}
use Rattle.gp_workers.proofs.reader.reader_loop.Given as goal

abbrev pub invariant-loop : goal.invariant-loop
invariant-loop g l = record {
  known : (bursts : List (ℕ × List ℕ)) (rest : List RingItem) → known_items l.initial.consumer ≡ up_to_end bursts rest → Midway l.initial.worker.receipts l.worker.receipts l.port bursts rest (known_items l.consumer);
  some : GrowsByBursts l.initial.worker.receipts l.worker.receipts l.port;
  start : l.start ≡ length l.initial.worker.receipts;
  longer : length l.initial.worker.receipts ≤ length l.worker.receipts;
}
