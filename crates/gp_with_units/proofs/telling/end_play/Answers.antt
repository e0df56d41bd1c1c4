use Rattle.std.proofs.Common.{ap, inr, ◌∙◌}
use Rattle.gp_with_units.specs.Playing.{play_ended_by}
use Rattle.gp_with_units.proofs.telling.end_play.Goals as goal

pub returns-in-Err : goal.returns-in-Err
returns-in-Err g c =
    let part = rw c.in-Err.is at c.written_out-told.ensures.part in
    inr (part.1, c.ended_by-played.ensures ∙ ap (λ fault. play_ended_by fault c.args.played) part.0)
