use Rattle.std.proofs.Common.{rules}
use Rattle.gp_verify.proofs.EndingLemmas.{told_fault, told_script}
use Rattle.gp_verify.proofs.checking.verify_told.Goals as goal

pub returns-in-Err-Trace : goal.returns-in-Err-Trace
returns-in-Err-Trace g c =
    told_fault c.args.form c.args.at_least _ _ _ _ _ _ _ c.verify_script_in.ensures c.in-Err-Trace.fault c.tell_end-in-Err-Trace.result _ c.as_checked-in-Err-Trace.result (search rules)
    c.tell_end-in-Err-Trace.ensures c.as_checked-in-Err-Trace.ensures

pub returns-in-Err-Script : goal.returns-in-Err-Script
returns-in-Err-Script g c = told_script c.args.form c.args.at_least _ _ _ _ _ _ _ c.verify_script_in.ensures c.in-Err-Script.fault (search rules)
