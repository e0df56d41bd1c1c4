use Rattle.std.proofs.Common.{ap, inr, ◌∙◌}
use Rattle.gp_with_units.specs.Explaining.{trace_ended_by}
use Rattle.gp_with_units.proofs.explaining.end_told.Goals as goal

pub returns-in-Err : goal.returns-in-Err
returns-in-Err g c =
    let part = rw c.in-Err.is at c.written_out-told.ensures.part in
    inr (part.1, c.ended_by-told.ensures ∙ ap (λ fault. trace_ended_by fault c.args.lines) part.0)
