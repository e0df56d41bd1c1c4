use Rattle.std.proofs.Common.{◌≡◌, ◌≤◌, length, Ok, rules}
use Rattle.gp_stream.specs.Source.{max_bytes}
use Rattle.gp_script.specs.Script.{script_of}
use Rattle.gp_script.specs.View.{script_view}
use Rattle.gp_replay.specs.Fault.{fault_of_script, fault_of_source}
use Rattle.gp_drive.specs.Outcome.DrivesInputIn.{Read}
use Rattle.gp_drive.proofs.DriveLemmas.{not_read, source_unread, unsaid}
use Rattle.gp_drive.proofs.driving.run_drive_in.Goals as goal

pub returns-in_err-bytes : goal.returns-in_err-bytes
returns-in_err-bytes g c =
    let fault = c.in_err-bytes.field-0.0 in
    not_read c.args.manner _ (fault_of_source fault) _ _ _ _ c.from_residual.ensures.1 (source_unread _ _ fault c.in_err-bytes.ensures)

pub returns-in_err-read : goal.returns-in_err-read
returns-in_err-read g c =
    let short : length c.in_ok-bytes.bytes.items ≤ max_bytes = search rules in
    let fault = c.in_err-read.field-0.0 in
    not_read c.args.manner _ (fault_of_script fault) _ _ _ _ c.from_residual-in_err-read.ensures.1
    (unsaid _ _ fault (λ f is. record { bytes = c.in_ok-bytes.bytes.items; read = c.in_ok-bytes.ensures.whole; short = short; says = search rules }))

pub returns : goal.returns
returns g c =
    let says : script_of c.in_ok-bytes.bytes.items ≡ Ok (script_view c.in_ok-read.read) = search rules in
    let short : length c.in_ok-bytes.bytes.items ≤ max_bytes = search rules in
    Read (record {
      script = script_view c.in_ok-read.read;
      input = record { bytes = c.in_ok-bytes.bytes.items; read = c.in_ok-bytes.ensures.whole; short = short; says = says };
      held = c.drive_script.ensures;
    })
