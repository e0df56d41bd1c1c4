use Rattle.std.proofs.Common.{◌<◌, ◌≤◌, length, arith}
use Rattle.std.proofs.lemmas.Grind.{common_steps}
use Rattle.std.proofs.lemmas.List.{length-map}
use Rattle.gp_fibre.specs.UnitStore.{units_at}
use Rattle.gp_fibre.proofs.StoredUnits.{asked_indexed, next_found, next_behind, none_found}
use Rattle.gp_fibre.proofs.unit_store.UnitStore.next_asked.Goals as goal

pub returns-in_default-clause-next : goal.returns-in_default-clause-next
returns-in_default-clause-next c =
    let i = c.self.inside in
    rw (← c.self.view_is)
    (none_found (units_at i.frames i.stored_units.items) i.asked c.args.grant c.args.from
    (asked_indexed i.mask i.frames i.stored_units.items i.timers i.asked c.self.invariant.0 c.self.invariant.1 c.args.grant) c.in_default.ensures)

pub returns-then-from-len-clause-next : goal.returns-then-from-len-clause-next
returns-then-from-len-clause-next c =
    let i = c.self.inside in
    let low : c.in-Some.place < length i.stored_units.items = grind (arith, common_steps) in
    rw (← c.self.view_is)
    (next_found (units_at i.frames i.stored_units.items) i.asked c.args.grant c.args.from
    (asked_indexed i.mask i.frames i.stored_units.items i.timers i.asked c.self.invariant.0 c.self.invariant.1 c.args.grant) c.in-Some.place
    (rw length-map low) c.in-Some.ensures)

pub returns-else-from-len-clause-next : goal.returns-else-from-len-clause-next
returns-else-from-len-clause-next c =
    let i = c.self.inside in
    let high : length i.stored_units.items ≤ c.in-Some.place = grind (arith, common_steps) in
    rw (← c.self.view_is)
    (next_behind (units_at i.frames i.stored_units.items) i.asked c.args.grant c.args.from
    (asked_indexed i.mask i.frames i.stored_units.items i.timers i.asked c.self.invariant.0 c.self.invariant.1 c.args.grant) c.in-Some.place
    (rw length-map high) c.in-Some.ensures)
