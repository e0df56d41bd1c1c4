use Rattle.std.proofs.Common.{◌≡◌, Err, rules}
use Rattle.gp_flow.specs.declared.fault.LinesFault.TheVariants.{Line, Read}
use Rattle.gp_flow.proofs.RunLemmas.{served_end, served_fault, served_read}
use Rattle.gp_flow.proofs.lines.run_lines.Goals as goal

pub returns-in-Ok : goal.returns-in-Ok
returns-in-Ok g c = served_end _ _ _ _ _ _ _ _ _ _ (rw c.in-Ok.is at c.serve.ensures)

pub returns-in-Err-Read : goal.returns-in-Err-Read
returns-in-Err-Read g c =
    let read : c.serve.result ≡ Err Read = search rules in
    served_read _ _ _ _ _ _ _ _ _ (rw read at c.serve.ensures)

pub returns-in-Err-Line : goal.returns-in-Err-Line
returns-in-Err-Line g c =
    let stopped : c.serve.result ≡ Err (Line c.in-Err-Line.fault) = search rules in
    served_fault _ _ _ _ _ _ _ _ _ _ _ _ (rw stopped at c.serve.ensures) c.write_out.ensures
