use Rattle.gp_with_units.proofs.Written.{plays_told, took_counted}
use Rattle.gp_with_units.proofs.playing.play_by.Goals as goal

pub returns : goal.returns
returns g c =
    let counting = c.in_ok-ended.field-0.counting in
    plays_told counting c.into_parts-teller.result c.into_parts-teller.ensures
    (took_counted g.B.Began.held counting.inner.taken counting.counter.taken c.requires.held c.passed_on.ensures) c.args.form g.T.Began.manner _
    c.in_ok-ended.field-0.ended.played c.in_ok-ended.field-0.ended.summary _ _ c.end_told.result.played c.in_ok-ended.ensures c.end_told.ensures
