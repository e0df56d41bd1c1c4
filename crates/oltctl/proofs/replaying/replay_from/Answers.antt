use Rattle.gp_script.specs.Script.{script_of}
use Rattle.gp_replay.specs.Outcome.{LeavesReplay}
use Rattle.oltctl.proofs.Runs.{found_fault, found_long, found_script}
use Rattle.oltctl.proofs.replaying.replay_from.Goals as goal

pub returns-clause-ok : goal.returns-clause-ok
returns-clause-ok g c =
    found_script script_of (LeavesReplay c.in_ok-sink.sink c.run_replay.new.sink) c.args.reader _ c.new-source.result c.run_replay.new.source c.in_ok-sink.sink
    c.run_replay.new.sink c.run_replay.result c.new-source.ensures c.run_replay.ensures.ends

pub returns-clause-script : goal.returns-clause-script
returns-clause-script g c = λ fault is.
    found_fault script_of (LeavesReplay c.in_ok-sink.sink c.run_replay.new.sink) c.args.reader _ c.new-source.result c.run_replay.new.source c.in_ok-sink.sink
    c.run_replay.new.sink c.run_replay.result c.new-source.ensures c.run_replay.ensures.ends fault is

pub returns-clause-too_long : goal.returns-clause-too_long
returns-clause-too_long g c = λ is.
    found_long script_of (LeavesReplay c.in_ok-sink.sink c.run_replay.new.sink) c.args.reader _ c.new-source.result c.run_replay.new.source c.in_ok-sink.sink
    c.run_replay.new.sink c.run_replay.result c.new-source.ensures c.run_replay.ensures.ends is
