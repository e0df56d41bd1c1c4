use Rattle.std.proofs.Common.{Err, refl}
use Rattle.std.proofs.lemmas.Result.{err_from_is_err_and}
use Rattle.gp_code_objects.proofs.decoder.decode_objects.Goals as goal

pub returns-in_err-run_lines : goal.returns-in_err-run_lines
returns-in_err-run_lines g c =
    let p = err_from_is_err_and c.from_residual.result c.from_residual.ensures.1 in
    rw (p.1, p.2) (record { new = c.run_lines.new.work; end = Err c.in_err-run_lines.field-0.0; served = rw c.new-decoder.ensures at c.in_err-run_lines.ensures; told = refl })
