use Rattle.std.proofs.Common.{sym}
use Rattle.hear_state.proofs.Ranks.{found_followed, found_none}
use Rattle.hear_state.proofs.index.Index.get.Goals as goal

pub returns-in-Ok : goal.returns-in-Ok
returns-in-Ok c =
    rw (c.as_slice-places.ensures.value, ← c.self.view_is, ← c.number.ensures.serial)
    (sym (found_followed c.self.inside.places.items c.number.result c.in-Ok.at c.self.invariant (rw c.as_slice-places.ensures.value at c.in-Ok.ensures.found)))

pub returns-in-Err : goal.returns-in-Err
returns-in-Err c =
    rw (← c.self.view_is, ← c.number.ensures.serial)
    (sym (found_none c.self.inside.places.items c.number.result _ c.number.ensures.fits c.self.invariant (rw c.as_slice-places.ensures.value at c.in-Err.ensures.absent)))
