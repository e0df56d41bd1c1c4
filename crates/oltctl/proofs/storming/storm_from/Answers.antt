use Rattle.gp_script.specs.Script.{storm_script_of}
use Rattle.gp_storm.specs.Outcome.{LeavesStormIn}
use Rattle.oltctl.proofs.Runs.{found_fault, found_long, found_script}
use Rattle.oltctl.proofs.storming.storm_from.Goals as goal

pub returns-clause-ok : goal.returns-clause-ok
returns-clause-ok g c =
    found_script storm_script_of (LeavesStormIn c.args.form c.in_ok-sink.sink c.run_storm_in.new.sink) c.args.reader _ c.new-source.result c.run_storm_in.new.source c.in_ok-sink.sink
    c.run_storm_in.new.sink c.run_storm_in.result c.new-source.ensures c.run_storm_in.ensures.ends

pub returns-clause-script : goal.returns-clause-script
returns-clause-script g c = λ fault is.
    found_fault storm_script_of (LeavesStormIn c.args.form c.in_ok-sink.sink c.run_storm_in.new.sink) c.args.reader _ c.new-source.result c.run_storm_in.new.source c.in_ok-sink.sink
    c.run_storm_in.new.sink c.run_storm_in.result c.new-source.ensures c.run_storm_in.ensures.ends fault is

pub returns-clause-too_long : goal.returns-clause-too_long
returns-clause-too_long g c = λ is.
    found_long storm_script_of (LeavesStormIn c.args.form c.in_ok-sink.sink c.run_storm_in.new.sink) c.args.reader _ c.new-source.result c.run_storm_in.new.source c.in_ok-sink.sink
    c.run_storm_in.new.sink c.run_storm_in.result c.new-source.ensures c.run_storm_in.ensures.ends is
