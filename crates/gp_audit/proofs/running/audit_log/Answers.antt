use Rattle.std.proofs.Common.{rules}
use Rattle.gp_audit.proofs.OutcomeLemmas.{audited_as, unserved_as, unsummed_as}
use Rattle.gp_audit.proofs.running.audit_log.Goals as goal

pub returns-in_err-tell_end : goal.returns-in_err-tell_end
returns-in_err-tell_end g c =
    unsummed_as c.args.auditor.now c.run_lines.new.work c.tell_end.new.self c.args.source.now c.run_lines.new.source c.args.sink.now c.run_lines.new.sink c.tell_end.new.sink _ _ _
    c.in_ok-run_lines.ensures.ok c.in_err-tell_end.ensures.told c.in_err-tell_end.ensures.same c.from_residual-in_err-tell_end.ensures.1

pub returns : goal.returns
returns g c =
    audited_as c.args.auditor.now c.run_lines.new.work c.tell_end.new.self c.args.source.now c.run_lines.new.source c.args.sink.now c.run_lines.new.sink c.tell_end.new.sink _
    c.sum.result c.in_ok-run_lines.ensures.ok c.in_ok-tell_end.ensures.told c.in_ok-tell_end.ensures.same c.sum.ensures

pub returns-in_err-run_lines : goal.returns-in_err-run_lines
returns-in_err-run_lines g c =
    unserved_as c.args.auditor.now c.run_lines.new.work c.args.source.now c.run_lines.new.source c.args.sink.now c.run_lines.new.sink c.in_err-run_lines.field-0.0 _ (search rules)
    c.in_err-run_lines.ensures
