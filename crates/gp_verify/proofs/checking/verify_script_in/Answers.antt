use Rattle.std.proofs.Common.{◌≡◌, ◌≤◌, length, Ok, rules}
use Rattle.gp_stream.specs.Source.{max_bytes}
use Rattle.gp_script.specs.Script.{script_of}
use Rattle.gp_script.specs.View.{script_view}
use Rattle.gp_replay.specs.Fault.{fault_of_script}
use Rattle.gp_verify.proofs.CheckingLemmas.{script_refused, trace_refused}
use Rattle.gp_verify.proofs.checking.verify_script_in.Goals as goal

pub returns-in_err-lines : goal.returns-in_err-lines
returns-in_err-lines g c =
    let says : script_of c.in_ok-bytes.bytes.items ≡ Ok (script_view c.in_ok-read.read) = search rules in
    let short : length c.in_ok-bytes.bytes.items ≤ max_bytes = search rules in
    trace_refused c.args.form _ _ _ _ _ _ (script_view c.in_ok-read.read) (record { bytes = c.in_ok-bytes.bytes.items; read = c.in_ok-bytes.ensures.whole; short = short; says = says })
    c.in_err-lines.field-0.0 c.in_err-lines.ensures.0 c.in_err-lines.ensures.1 c.in_err-lines.ensures.2 _ c.from_residual-in_err-lines.ensures.1

pub returns-in_err-read : goal.returns-in_err-read
returns-in_err-read g c =
    script_refused c.args.form _ _ _ _ (fault_of_script c.in_err-read.field-0.0) (search rules) _ c.from_residual-in_err-read.ensures.1

pub returns : goal.returns
returns g c =
    let says : script_of c.in_ok-bytes.bytes.items ≡ Ok (script_view c.in_ok-read.read) = search rules in
    let short : length c.in_ok-bytes.bytes.items ≤ max_bytes = search rules in
    record {
      told = c.in_ok-lines.ensures.0;
      checked = record {
        script = script_view c.in_ok-read.read;
        input = record { bytes = c.in_ok-bytes.bytes.items; read = c.in_ok-bytes.ensures.whole; short = short; says = says };
        held = c.in_ok-lines.ensures.1;
      };
      written = c.in_ok-lines.ensures.2;
    }
