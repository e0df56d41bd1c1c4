use Rattle.std.proofs.Common.{◌≡◌, ap, subst, sym, ◌∙◌}
use Rattle.std.specs.FinMap as map
use Rattle.gp_pools.specs.Allocs.{AllocMap, AreLeased}
use Rattle.gp_pools.proofs.Callers.{leased_none}
use Rattle.gp_unit.specs.declared.record.Record.{Record}
use Rattle.gp_unit.specs.Units.{RetiredState}
use Rattle.gp_port_tests.proofs.unit.frames_until_free.Goals as goal

pub give_up-requires-clause-allocs : goal.give_up-requires-clause-allocs
give_up-requires-clause-allocs c =
    let none : c.retire.result.allocs ≡ map.empty =
    ap (λ (r : RetiredState). r.allocs) c.retire.ensures ∙ ap (λ (u : Record). u.row.allocs) c.begin-unit.ensures in
    subst (λ (m : AllocMap). AreLeased c.new-alloc_ids.result m) (sym none) (leased_none c.new-alloc_ids.result)
