use Rattle.std.proofs.Common.{◌≡◌, Option, None, Some, ap, subst, sym, ◌∙◌}
use Rattle.std.specs.Prelude.{MatchOption}
use Rattle.std.specs.FinMap as map
use Rattle.gp_alarms.specs.declared.alarm.AlarmKind.{AlarmKind}
use Rattle.gp_pools.specs.Allocs.{AllocMap, AreLeased}
use Rattle.gp_pools.proofs.Callers.{leased_none}
use Rattle.gp_unit.proofs.Kept.{popped_allocs}
use Rattle.gp_unit.specs.declared.record.Record.{Record}
use Rattle.gp_unit.specs.declared.operating.PollClosed.TheVariants.{Still, Lost}
use Rattle.gp_unit.specs.Units.{RetiredState}
use Rattle.gp_port_tests.proofs.unit.popped_up.Goals as goal

still_is : (o : Option AlarmKind) (new was : Record) (rest : RetiredState) → MatchOption o (Still new ≡ Still was) (λ alarm. Still new ≡ Lost rest alarm) → new ≡ was
still_is None new was rest h = cc
still_is (Some alarm) new was rest h = absurd (cc)

pub settle-requires-clause-allocs : goal.settle-requires-clause-allocs
settle-requires-clause-allocs c =
    let still = still_is _ c.in-Still.unit _ _ c.in-Still.ensures in
    let none : c.popup_all.result.row.allocs ≡ map.empty =
    ap (λ (u : Record). u.row.allocs) c.popup_all.ensures
    ∙ popped_allocs c.in-Still.unit.row c.in-Still.unit.row.phase
    ∙ ap (λ (u : Record). u.row.allocs) still
    ∙ ap (λ (u : Record). u.row.allocs) c.in-Ok.ensures.1
    ∙ ap (λ (u : Record). u.row.allocs) c.begin.ensures in
    subst (λ (m : AllocMap). AreLeased c.new-alloc_ids.result m) (sym none) (leased_none c.new-alloc_ids.result)
