use Rattle.std.proofs.Common.{◌≡◌, ap, length, sym, ◌∙◌, arith, lit≤}
use Rattle.std.specs.FinMap.{get, get-empty}
use Rattle.std.specs.Ordering.{nat_cmp}
use Rattle.std.proofs.lemmas.Grind.{common_steps}
use Rattle.gp_timers.specs.Timers.{Timers}
use Rattle.gp_fibre.proofs.StoredUnits.{none_due, none_indexed}
use Rattle.gp_fibre.proofs.unit_store.UnitStore.begin.Goals as goal

pub invariant_of-result : goal.invariant_of-result
invariant_of-result c =
    let inv = c.loop-plan.invariant in
    let stored_units = c.loop-plan.stored_units in
    let many : length stored_units.items ≡ length c.args.plans.now = grind (arith, common_steps) in (
      record {
        each = inv.each;
        names = ap (λ (t : Timers). t.names) c.in-Ok.ensures ∙ sym many;
        set = λ name. ap (λ (t : Timers). get t.frames name) c.in-Ok.ensures ∙ get-empty nat_cmp name ∙ sym (none_due stored_units.items name inv.due);
        few = let low = c.requires.few in omega arith;
        fits = lit≤ tt;
      },
      none_indexed stored_units.items c.in_ok-asked.asked inv.asked _ (sym many) c.in_ok-asked.ensures,
    )
