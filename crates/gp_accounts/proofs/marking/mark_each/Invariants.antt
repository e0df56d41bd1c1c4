use Rattle.std.proofs.Common.{ℕ, ◌≡◌, ◌<◌, ◌≤◌, All, length, map, take}
use Rattle.std.specs.Prelude.{None, slice_index_or}
use Rattle.gp_accounts.specs.Accounted.{IsNamed, IsRising, numbers_on}
use Rattle.gp_accounts.specs.Places.{GrowBy}
use Rattle.gp_accounts.proofs.Numbers.{IsLastOf}
use Rattle.gp_accounts.proofs.marking.mark_each.Given as goal

abbrev pub invariant-loop-receipt : goal.invariant-loop-receipt
invariant-loop-receipt g l = record {
  named : All (IsNamed (map g.J.Recorded.history l.journals)) (take l.receipt-index l.receipts);
  rising : (port : ℕ) → IsRising (numbers_on port (take l.receipt-index l.receipts));
  len : length l.last ≡ 256;
  last : (port : ℕ) → port < 256 → IsLastOf (slice_index_or l.last port None) (numbers_on port (take l.receipt-index l.receipts));
  marked : GrowBy (map g.J.Recorded.history l.journals) (take l.receipt-index l.receipts) l.initial.marks l.marks;
  once : All (λ (m : ℕ). m ≤ 1) l.marks;
}
