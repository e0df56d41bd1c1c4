use Rattle.gp_with_units.proofs.Written.{explains_told, took_counted}
use Rattle.gp_with_units.proofs.explaining.explain_by.Goals as goal

pub returns-clause-explains : goal.returns-clause-explains
returns-clause-explains g c =
    let counting = c.in_ok-told.field-0.counting in
    explains_told counting c.into_parts-teller.result c.into_parts-teller.ensures
    (took_counted g.B.Began.held counting.inner.taken counting.counter.taken c.requires.held c.passed_on.ensures) c.args.form g.T.Began.manner c.args.mask _ _
    c.in_ok-told.field-0.told c.in_ok-told.field-0.summary c.in_ok-told.field-0.codes _ _ c.end_told.result.told c.requires.under c.in_ok-told.ensures.explained
    c.in_ok-told.ensures.codes c.end_told.ensures
