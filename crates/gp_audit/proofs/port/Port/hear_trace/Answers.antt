use Rattle.std.proofs.Common.{rules}
use Rattle.gp_watch.specs.declared.fault.WatchFault.TheVariants.{Full}
use Rattle.gp_audit.specs.Failing.{TraceFails}
use Rattle.gp_audit.specs.Hearing.{port_ticked, trace_told}
use Rattle.gp_audit.proofs.BookLemmas.{fails_so}
use Rattle.gp_audit.proofs.PortLemmas.{first_fails, second_fails, trace_then}
use Rattle.gp_audit.proofs.port.Port.hear_trace.Goals as goal

pub returns-clause-told : goal.returns-clause-told
returns-clause-told c =
    trace_then c.hear_maybe-2.result c.args.options.now c.args.place.now (port_ticked c.args.self.now c.args.is_frame) c.tick.new.self c.hear_maybe.new.self c.args.first.now
    c.args.second.now c.args.book.now c.hear_maybe.new.book c.hear_maybe-2.new.book c.tick.ensures c.in_ok-hear_maybe.ensures.noted c.in_ok-hear_maybe.ensures.told
    c.hear_maybe-2.ensures.told

pub returns-in_err-hear_maybe-clause-fault : goal.returns-in_err-hear_maybe-clause-fault
returns-in_err-hear_maybe-clause-fault c =
    let ticked = port_ticked c.args.self.now c.args.is_frame in
    fails_so c.args.book.now.sum (trace_told c.args.options.now c.args.place.now ticked c.args.first.now c.args.second.now) (TraceFails c.args.options.now ticked c.args.first.now c.args.second.now Full)
    c.in_err-hear_maybe.field-0.0 c.from_residual.result (search rules)
    (first_fails c.args.options.now c.args.place.now ticked c.tick.new.self c.args.first.now c.args.second.now c.args.book.now.sum c.in_err-hear_maybe.field-0.0 c.tick.ensures
    c.in_err-hear_maybe.ensures.fault)

pub returns-clause-fault : goal.returns-clause-fault
returns-clause-fault c =
    second_fails c.hear_maybe-2.result c.args.options.now c.args.place.now (port_ticked c.args.self.now c.args.is_frame) c.tick.new.self c.hear_maybe.new.self c.args.first.now c.args.second.now
    c.args.book.now c.hear_maybe.new.book c.tick.ensures c.in_ok-hear_maybe.ensures.noted c.in_ok-hear_maybe.ensures.told c.hear_maybe-2.ensures.fault
