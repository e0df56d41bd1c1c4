use Rattle.oltctl.proofs.Runs.{units_from, unchecked}
use Rattle.oltctl.proofs.verifying.verify_units_from.Goals as goal

pub returns-in_err-sink : goal.returns-in_err-sink
returns-in_err-sink g c = unchecked c.args.wanted.form c.args.script _ c.args.trace _ _ c.from_residual.ensures.1

pub returns : goal.returns
returns g c =
    units_from c.args.wanted.form c.args.wanted.at_least c.args.script _ c.args.trace _ c.new-script.result c.verify_with_units.new.script c.endless-trace.result
    c.verify_with_units.new.trace _ c.verify_with_units.new.sink c.verify_with_units.result c.new-script.ensures c.endless-trace.ensures c.verify_with_units.ensures
