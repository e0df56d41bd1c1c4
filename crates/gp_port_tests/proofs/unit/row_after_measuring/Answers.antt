use Rattle.std.proofs.Common.{◌≡◌, ap, subst, sym, ◌∙◌}
use Rattle.std.specs.FinMap as map
use Rattle.gp_pools.specs.Allocs.{AllocMap, AreLeased}
use Rattle.gp_pools.proofs.Callers.{leased_none}
use Rattle.gp_unit.specs.declared.record.Record.{Record}
use Rattle.gp_port_tests.proofs.unit.row_after_measuring.Goals as goal

pub settle-kept-requires-clause-allocs : goal.settle-kept-requires-clause-allocs
settle-kept-requires-clause-allocs c =
    let none : c.in-Ok.unit.row.allocs ≡ map.empty = ap (λ (u : Record). u.row.allocs) c.in-Ok.ensures.1 ∙ ap (λ (u : Record). u.row.allocs) c.begin-unit.ensures in
    subst (λ (m : AllocMap). AreLeased c.new-alloc_ids.result m) (sym none) (leased_none c.new-alloc_ids.result)

pub settle-kept-requires-in-Err-clause-allocs : goal.settle-kept-requires-in-Err-clause-allocs
settle-kept-requires-in-Err-clause-allocs c =
    let none : c.in-Err.unit.row.allocs ≡ map.empty = ap (λ (u : Record). u.row.allocs) c.in-Err.ensures.1 ∙ ap (λ (u : Record). u.row.allocs) c.begin-unit.ensures in
    subst (λ (m : AllocMap). AreLeased c.new-alloc_ids.result m) (sym none) (leased_none c.new-alloc_ids.result)
