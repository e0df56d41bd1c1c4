use Rattle.std.proofs.Common.{ℕ, ◌≤◌, All, map, take}
use Rattle.gp_accounts.specs.Accounted.{IsNamed, Rises}
use Rattle.gp_accounts.proofs.Standing.{Counts}
use Rattle.gp_accounts.proofs.marking.are_accounted.Given as goal

abbrev pub invariant-loop-worker : goal.invariant-loop-worker
invariant-loop-worker g l = record {
  named : All (λ w. All (IsNamed (map g.J.Recorded.history l.journals)) (g.W.ReceiptList.told w)) (take l.worker-index l.workers);
  rising : All (λ w. Rises (g.W.ReceiptList.told w)) (take l.worker-index l.workers);
  counted : Counts (map g.J.Recorded.history l.journals) g.W.ReceiptList.told l.workers l.worker-index l.marks;
  once : All (λ (m : ℕ). m ≤ 1) l.marks;
}
