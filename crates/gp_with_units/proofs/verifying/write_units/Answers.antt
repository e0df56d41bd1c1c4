use Rattle.std.proofs.Common.{Ok, Err, Some, ap, ◌∙◌}
use Rattle.gp_with_units.proofs.Units.{text_behind}
use Rattle.gp_with_units.proofs.verifying.write_units.Goals as goal

pub returns-in-Ok : goal.returns-in-Ok
returns-in-Ok g c =
    text_behind c.args.units c.in-Some-Ok.text c.args.found _ _ (Ok c.in-Ok.field-0) (c.in-Some-Ok.is ∙ ap Some c.in-Some-Ok.field-0-is)
    (rw c.as_slice.ensures.value at c.in-Ok.ensures)

pub returns-in-Err : goal.returns-in-Err
returns-in-Err g c =
    text_behind c.args.units c.in-Some-Ok.text c.args.found _ _ (Err c.in-Err.field-0) (c.in-Some-Ok.is ∙ ap Some c.in-Some-Ok.field-0-is)
    (rw c.as_slice.ensures.value at c.in-Err.ensures)
