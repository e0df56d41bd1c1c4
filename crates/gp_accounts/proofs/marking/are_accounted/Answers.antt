use Rattle.std.proofs.Common.{◌≡◌, ◌≤◌, All, refl, map, ◌∙◌, arith}
use Rattle.std.proofs.lemmas.Bool.{false≢true}
use Rattle.std.proofs.lemmas.List.Elements.{All-more, All-weaker}
use Rattle.gp_accounts.specs.Accounted.{IsNamed, Rises}
use Rattle.gp_accounts.proofs.Standing.{below, counts_more}
use Rattle.gp_accounts.proofs.Reconciles.{refused_refutes, ones_tell}
use Rattle.gp_accounts.proofs.marking.are_accounted.Goals as goal

pub returns-then-not-mark_each : goal.returns-then-not-mark_each
returns-then-not-mark_each g c = (
  λ t. absurd (false≢true t),
  λ h. absurd (refused_refutes (map g.J.Recorded.history c.args.journals.now) g.W.ReceiptList.told c.args.workers.now c.loop-worker.worker-index c.worker-item.result c.receipts.result.now c.loop-worker.marks c.loop-worker-test.true
      c.worker-item.is c.receipts.ensures c.loop-worker.invariant.counted (c.if-not-mark_each.ensures.refused refl) h),
)

pub returns : goal.returns
returns g c =
    ones_tell (map g.J.Recorded.history c.args.journals.now) g.W.ReceiptList.told c.args.workers.now c.loop-worker.worker-index c.loop-worker.marks c.all_ones.result c.loop-worker-test.false
    (c.loop-worker.auto.marks ∙ c.requires.count) c.loop-worker.invariant.named c.loop-worker.invariant.rising c.loop-worker.invariant.counted c.all_ones.ensures

pub loop-worker-init : goal.loop-worker-init
loop-worker-init g c = record {
  named = λ k d l. absurd (omega (arith, l));
  rising = λ k d l. absurd (omega (arith, l));
  counted = λ port k h of l. c.requires.blank _ 0 (omega (arith, below (map g.J.Recorded.history c.args.journals.now) port k h of l, c.requires.count));
  once = All-weaker (λ m. m ≡ 0) (λ m. m ≤ 1) (λ m z. omega (arith, z)) c.args.marks.now c.requires.blank;
}

pub loop-worker-preserved : goal.loop-worker-preserved
loop-worker-preserved g c =
    let hs = map g.J.Recorded.history c.args.journals.now in
    let inv = c.loop-worker.invariant in
    let marked = c.if-not-mark_each.ensures in
    let more = c.loop-worker-test.true in
    let named = rw c.receipts.ensures at (marked.named refl) in
    let rising = rw c.receipts.ensures at (marked.rising refl) in
    record {
      named = All-more (λ w. All (IsNamed hs) (g.W.ReceiptList.told w)) c.args.workers.now c.loop-worker.worker-index c.worker-item.result more inv.named (rw (← c.worker-item.is) named);
      rising = All-more (λ w. Rises (g.W.ReceiptList.told w)) c.args.workers.now c.loop-worker.worker-index c.worker-item.result more inv.rising (rw (← c.worker-item.is) rising);
      counted = counts_more hs g.W.ReceiptList.told c.args.workers.now c.loop-worker.worker-index c.worker-item.result c.receipts.result.now c.loop-worker.marks _ more c.worker-item.is c.receipts.ensures inv.counted (marked.marked refl);
      once = marked.once refl;
    }
