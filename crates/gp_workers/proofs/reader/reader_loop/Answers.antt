use Rattle.std.proofs.Common.{rules, ap, length, arith}
use Rattle.std.proofs.lemmas.Grind.{common_steps}
use Rattle.gp_workers.proofs.Rings.{grows_by_none, grows_by_one, grows_no_more, midway_start, midway_burst, midway_end, midway_fault}
use Rattle.gp_workers.proofs.reader.reader_loop.Goals as goal

pub loop-init : goal.loop-init
loop-init g c = record {
  known = λ bursts rest is. midway_start c.args.worker.now.receipts c.args.port bursts rest _ is;
  some = grows_by_none c.args.worker.now.receipts c.args.port;
  start = ap length c.receipts-start.ensures;
  longer = omega arith;
}

pub returns-in-End-clause-ok : goal.returns-in-End-clause-ok
returns-in-End-clause-ok g c bursts rest is =
    midway_end c.args.worker.now.receipts c.loop.worker.receipts c.args.port bursts rest _ _ (c.loop.invariant.known bursts rest is) c.in-End.ensures.known

pub returns-in-Err-clause-err : goal.returns-in-Err-clause-err
returns-in-Err-clause-err g c bursts rest is =
    midway_fault c.args.worker.now.receipts c.loop.worker.receipts _ c.args.port bursts rest _ (c.loop.invariant.known bursts rest is) c.in-Err.ensures.err

pub loop-preserved : goal.loop-preserved
loop-preserved g c = record {
  known = λ bursts rest is.
      midway_burst c.args.worker.now.receipts c.loop.worker.receipts _ c.args.port bursts rest _ _ c.in-Burst.at c.in-Burst.bytes c.in_default.field-0 (c.loop.invariant.known bursts rest is) c.in-Burst.ensures.known
      c.in_default.ensures.grown (search (rules, c.in_default.ensures.receipt));
  some = grows_by_one c.args.worker.now.receipts c.loop.worker.receipts _ c.args.port c.in-Burst.at c.in-Burst.bytes c.in_default.field-0 c.loop.invariant.some c.in_default.ensures.grown (search (rules, c.in_default.ensures.receipt));
  start = c.loop.invariant.start;
  longer = grind (arith, common_steps, c.loop.invariant.longer, c.in_default.ensures.grown);
}

pub returns-in-Err-clause-kind : goal.returns-in-Err-clause-kind
returns-in-Err-clause-kind g c =
    grows_no_more c.args.worker.now.receipts c.loop.worker.receipts _ c.args.port c.loop.invariant.some c.in-Err.ensures.err
