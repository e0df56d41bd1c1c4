use Rattle.std.proofs.Common.{◌∙◌, ap}
use Rattle.gp_flow.specs.declared.fault.Unanswered.TheVariants.{OutOfMemory}
use Rattle.gp_script.specs.View.{script_view}
use Rattle.gp_summed.specs.Verifying.{CountingVerifyState}
use Rattle.gp_summed.proofs.CountedChecks.{are_units, checks_by, none_checked}
use Rattle.gp_summed.proofs.verifying.sum_on.Goals as goal

pub returns-in_default-clause-checks : goal.returns-in_default-clause-checks
returns-in_default-clause-checks g c =
    none_checked c.args.form (script_view c.args.script) c.args.trace.now c.args.trace.now c.args.sink.now c.args.sink.now OutOfMemory c.unjudged.result.found (λ e. absurd (cc)) c.unjudged.ensures.found

pub returns-in-Ok-open_verify-clause-checks : goal.returns-in-Ok-open_verify-clause-checks
returns-in-Ok-open_verify-clause-checks g c =
    let ends = c.judge_on.ensures.ends in
    checks_by c.args.form (script_view c.args.script) c.args.trace.now c.judge_on.new.trace c.args.sink.now c.judge_on.new.sink c.new-counting.result.verify ends.0.verify c.judge_on.result.found
    (ap (λ (a : CountingVerifyState). a.verify) c.new-counting.ensures ∙ c.in-Ok-open_verify.ensures)
    ends.1

pub returns-in-Ok-open_verify-clause-units : goal.returns-in-Ok-open_verify-clause-units
returns-in-Ok-open_verify-clause-units g c =
    let ends = c.judge_on.ensures.ends in
    are_units c.args.form (script_view c.args.script) c.args.trace.now c.judge_on.new.trace g.B.Opening.mask g.B.Opening.start g.B.Opening.ports c.new-counting.result.verify ends.0.verify
    ends.0.counter.taken c.judge_on.result.found c.judge_on.result.units c.requires.start c.requires.mask c.requires.ports
    (ap (λ (a : CountingVerifyState). a.verify) c.new-counting.ensures ∙ c.in-Ok-open_verify.ensures)
    c.judge_on.ensures.there ends.2 ends.3

pub returns-in-Err-clause-checks : goal.returns-in-Err-clause-checks
returns-in-Err-clause-checks g c =
    none_checked c.args.form (script_view c.args.script) c.args.trace.now c.args.trace.now c.args.sink.now c.args.sink.now OutOfMemory c.unjudged-in-Err.result.found (λ e. absurd (cc)) c.unjudged-in-Err.ensures.found
