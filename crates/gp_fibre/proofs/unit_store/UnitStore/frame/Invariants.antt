use Rattle.gp_fibre.specs.UnitStore.{AreIndexed}
use Rattle.gp_fibre.proofs.StoredUnits.{ending, InFrame}
use Rattle.gp_fibre.proofs.unit_store.UnitStore.frame.Given as goal

abbrev pub invariant-loop-name : goal.invariant-loop-name
invariant-loop-name l =
    InFrame l.fn.self l.self-inside.mask l.self-inside.frames l.self-inside.stored_units.items l.self-inside.timers
    × AreIndexed l.self-inside.stored_units.items l.self-inside.asked

abbrev pub decreases-loop-name : goal.decreases-loop-name
decreases-loop-name l = ending l.self-inside.frames l.self-inside.stored_units.items
