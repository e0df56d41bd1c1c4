use Rattle.std.proofs.Common.{◌≡◌, ◌≤◌, length, Ok, rules}
use Rattle.std.specs.String.{string_bytes}
use Rattle.gp_stream.specs.Source.{max_bytes}
use Rattle.gp_script.specs.Script.{storm_script_of}
use Rattle.gp_script.specs.View.{script_view}
use Rattle.gp_replay.proofs.OutcomeLemmas.{run_unread, run_unsaid}
use Rattle.gp_storm.specs.Outcome.{LeavesStormIn}
use Rattle.gp_storm.proofs.OutcomeLemmas.{storm_failed, storm_unwritten}
use Rattle.gp_storm.proofs.storming.run_storm_in.Goals as goal

pub returns-in_err-bytes-clause-ends : goal.returns-in_err-bytes-clause-ends
returns-in_err-bytes-clause-ends g c = run_unread storm_script_of (LeavesStormIn c.args.form c.args.sink.now c.args.sink.now) _ _ c.args.sink.now _ _ c.in_err-bytes.ensures c.from_residual.ensures.1

pub returns-in_err-bytes-clause-reads : goal.returns-in_err-bytes-clause-reads
returns-in_err-bytes-clause-reads g c = record { failed = search rules; refused = search rules; counted = search rules; long = search rules; faulty = search rules }

pub returns-in_err-script-clause-ends : goal.returns-in_err-script-clause-ends
returns-in_err-script-clause-ends g c = run_unsaid storm_script_of (LeavesStormIn c.args.form c.args.sink.now c.args.sink.now) _ _ c.args.sink.now _ _ (λ fault is. search rules) c.from_residual-in_err-script.ensures.1

pub returns-in_err-script-clause-reads : goal.returns-in_err-script-clause-reads
returns-in_err-script-clause-reads g c = record { failed = search rules; refused = search rules; counted = search rules; long = search rules; faulty = search rules }

pub returns-in_err-text-clause-ends : goal.returns-in_err-text-clause-ends
returns-in_err-text-clause-ends g c =
    let says : storm_script_of c.in_ok-bytes.bytes.items ≡ Ok (script_view c.in_ok-script.script) = search rules in
    let short : length c.in_ok-bytes.bytes.items ≤ max_bytes = search rules in
    storm_failed c.args.form _ _ _ (script_view c.in_ok-script.script) _ _ (record { bytes = c.in_ok-bytes.bytes.items; read = c.in_ok-bytes.ensures.whole; short = short; says = says })
    c.in_err-text.ensures.fault c.from_residual-in_err-text.ensures.1

pub returns-in_err-text-clause-reads : goal.returns-in_err-text-clause-reads
returns-in_err-text-clause-reads g c = record { failed = search rules; refused = search rules; counted = search rules; long = search rules; faulty = search rules }

pub returns-in_err-write_whole-clause-ends : goal.returns-in_err-write_whole-clause-ends
returns-in_err-write_whole-clause-ends g c =
    let says : storm_script_of c.in_ok-bytes.bytes.items ≡ Ok (script_view c.in_ok-script.script) = search rules in
    let short : length c.in_ok-bytes.bytes.items ≤ max_bytes = search rules in
    storm_unwritten c.args.form _ _ _ _ (script_view c.in_ok-script.script) _ (record { bytes = c.in_ok-bytes.bytes.items; read = c.in_ok-bytes.ensures.whole; short = short; says = says })
    (record { text = string_bytes c.in_ok-text.text; totals = c.in_ok-text.ensures.totals; written = search rules; stopped = search rules })
    c.from_residual-in_err-write_whole.ensures.1

pub returns-in_err-write_whole-clause-reads : goal.returns-in_err-write_whole-clause-reads
returns-in_err-write_whole-clause-reads g c = record { failed = search rules; refused = search rules; counted = search rules; long = search rules; faulty = search rules }

pub returns-clause-ends : goal.returns-clause-ends
returns-clause-ends g c =
    let says : storm_script_of c.in_ok-bytes.bytes.items ≡ Ok (script_view c.in_ok-script.script) = search rules in
    let short : length c.in_ok-bytes.bytes.items ≤ max_bytes = search rules in
    record {
      script = script_view c.in_ok-script.script;
      input = record { bytes = c.in_ok-bytes.bytes.items; read = c.in_ok-bytes.ensures.whole; short = short; says = says };
      held = record { text = string_bytes c.in_ok-text.text; totals = c.in_ok-text.ensures.totals; written = search rules; finished = search rules; unstopped = search rules };
    }

pub returns-clause-reads : goal.returns-clause-reads
returns-clause-reads g c = record { failed = search rules; refused = search rules; counted = search rules; long = search rules; faulty = search rules }
