use Rattle.std.proofs.Common.{Err, refl}
use Rattle.gp_script.specs.View.{script_view}
use Rattle.gp_verify.specs.declared.outcome.CheckFault.TheVariants.{Script}
use Rattle.gp_verify.proofs.CheckingLemmas.{script_refused}
use Rattle.gp_verify.proofs.EndingLemmas.{told_script}
use Rattle.gp_summed.proofs.CountedChecks.{all_summed, all_told, checked_by}
use Rattle.gp_summed.proofs.verifying.verify_summed.Goals as goal

pub returns-in-Ok-clause-told : goal.returns-in-Ok-clause-told
returns-in-Ok-clause-told g c =
    all_told c.args.form c.args.at_least c.args.script.now c.script_in.new.source c.args.trace.now c.sum_script-found.new.trace c.args.sink.now c.sum_script-found.new.sink
    c.tell_end-told.new.sink (script_view c.in-Ok.read) c.in-Ok.ensures.read c.sum_script-found.result.found c.tell_end-told.result c.map_err.result
    c.sum_script-found.ensures.checks c.tell_end-told.ensures (checked_by c.tell_end-told.result c.map_err.result c.map_err.ensures.cases)

pub returns-in-Err-clause-told : goal.returns-in-Err-clause-told
returns-in-Err-clause-told g c =
    let fault = c.in-Err.fault in
    let checked = script_refused c.args.form c.args.script.now c.script_in.new.source c.args.trace.now c.args.sink.now fault c.in-Err.ensures.unread (Err (Script fault)) refl in
    told_script c.args.form c.args.at_least c.args.script.now c.script_in.new.source c.args.trace.now c.args.trace.now c.args.sink.now c.args.sink.now (Err (Script fault)) checked fault refl

pub returns-in-Ok-clause-units : goal.returns-in-Ok-clause-units
returns-in-Ok-clause-units g c =
    all_summed c.args.form c.args.script.now c.script_in.new.source c.args.trace.now c.sum_script-found.new.trace (script_view c.in-Ok.read) c.in-Ok.ensures.read
    c.sum_script-found.result.found c.sum_script-found.result.units c.sum_script-found.ensures.units c.args.at_least c.sum_script-found.new.sink
    c.tell_end-told.new.sink c.tell_end-told.result c.map_err.result c.tell_end-told.ensures
    (checked_by c.tell_end-told.result c.map_err.result c.map_err.ensures.cases)
