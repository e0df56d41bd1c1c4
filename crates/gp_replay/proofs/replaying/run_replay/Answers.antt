use Rattle.std.proofs.Common.{◌≡◌, ◌≤◌, length, Ok, rules}
use Rattle.gp_stream.specs.Source.{max_bytes}
use Rattle.gp_script.specs.Script.{script_of}
use Rattle.gp_script.specs.View.{script_view}
use Rattle.gp_replay.specs.Outcome.{LeavesReplay}
use Rattle.gp_replay.proofs.OutcomeLemmas.{run_unplayed, run_unread, run_unsaid}
use Rattle.gp_replay.proofs.replaying.run_replay.Goals as goal

pub returns-in_err-bytes-clause-ends : goal.returns-in_err-bytes-clause-ends
returns-in_err-bytes-clause-ends g c = run_unread script_of (LeavesReplay c.args.sink.now c.args.sink.now) _ _ c.args.sink.now _ _ c.in_err-bytes.ensures c.from_residual.ensures.1

pub returns-in_err-bytes-clause-reads : goal.returns-in_err-bytes-clause-reads
returns-in_err-bytes-clause-reads g c = record { failed = search rules; refused = search rules; counted = search rules; long = search rules; faulty = search rules }

pub returns-in_err-script-clause-ends : goal.returns-in_err-script-clause-ends
returns-in_err-script-clause-ends g c = run_unsaid script_of (LeavesReplay c.args.sink.now c.args.sink.now) _ _ c.args.sink.now _ _ (λ fault is. search rules) c.from_residual-in_err-script.ensures.1

pub returns-in_err-script-clause-reads : goal.returns-in_err-script-clause-reads
returns-in_err-script-clause-reads g c = record { failed = search rules; refused = search rules; counted = search rules; long = search rules; faulty = search rules }

pub returns-in_err-play_script-clause-ends : goal.returns-in_err-play_script-clause-ends
returns-in_err-play_script-clause-ends g c =
    let says : script_of c.in_ok-bytes.bytes.items ≡ Ok (script_view c.in_ok-script.script) = search rules in
    let short : length c.in_ok-bytes.bytes.items ≤ max_bytes = search rules in
    run_unplayed _ _ _ _ (script_view c.in_ok-script.script) _ _ (record { bytes = c.in_ok-bytes.bytes.items; read = c.in_ok-bytes.ensures.whole; short = short; says = says })
    c.in_err-play_script.ensures.fault c.from_residual-in_err-play_script.ensures.1

pub returns-in_err-play_script-clause-reads : goal.returns-in_err-play_script-clause-reads
returns-in_err-play_script-clause-reads g c = record { failed = search rules; refused = search rules; counted = search rules; long = search rules; faulty = search rules }

pub returns-clause-reads : goal.returns-clause-reads
returns-clause-reads g c = record { failed = search rules; refused = search rules; counted = search rules; long = search rules; faulty = search rules }
