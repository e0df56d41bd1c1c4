use Rattle.std.proofs.Common.{◌-◌, ap, ◌∙◌, arith}
use Rattle.gp_onu.specs.Table.{UnitState, Frame, unit_after}
use Rattle.gp_fibre.proofs.StoredUnits.{one_more, positive}
use Rattle.gp_fibre.proofs.stored_unit.end_state.Goals as goal

pub returns : goal.returns
returns c =
    let u = c.args.unit.now in
    let left = c.in-Some.left in
    let some = positive u left c.in-Some.ensures.first in
    rw (← c.in-Some.ensures.value)
    (c.frame.ensures ∙ ap (λ (v : UnitState). unit_after v Frame) c.skip.ensures ∙ one_more u (left - 1) left (omega arith))
