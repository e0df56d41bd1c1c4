use Rattle.gp_with_units.proofs.Written.{drives_told, took_counted}
use Rattle.gp_with_units.proofs.driving.drive_by.Goals as goal

pub returns-clause-drives : goal.returns-clause-drives
returns-clause-drives g c =
    let counting = c.in_ok-ended.field-0.counting in
    drives_told counting c.into_parts-teller.result c.into_parts-teller.ensures
    (took_counted g.B.Began.held counting.inner.taken counting.counter.taken c.requires.held c.passed_on.ensures) c.args.form g.S.Began.manner c.args.manner _ _ _
    c.in_ok-ended.field-0.ended _ _ c.end_told.result.ended c.in_ok-ended.ensures.drives c.end_told.ensures
