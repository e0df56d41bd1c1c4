use Rattle.std.proofs.Common.{ap, inr, ◌∙◌}
use Rattle.gp_with_units.specs.Driving.{drive_ended_by}
use Rattle.gp_with_units.proofs.driving.end_told.Goals as goal

pub returns-in-Err : goal.returns-in-Err
returns-in-Err g c =
    let part = rw c.in-Err.is at c.written_out-told.ensures.part in
    inr (part.1, c.ended_by-ended.ensures ∙ ap (λ fault. drive_ended_by fault c.args.ended) part.0)
