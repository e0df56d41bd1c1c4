use Rattle.std.proofs.Common.{◌≡◌, Bool, Option, None, Some, false, ap, sym, subst, ◌∙◌, arith}
use Rattle.std.specs.Ordering.{nat_cmp}
use Rattle.std.specs.FinMap as map
use Rattle.gp_pools.proofs.Callers.{leased_none, leased_with}
use Rattle.gp_pools.proofs.Further.{get-insert_same}
use Rattle.gp_pools.specs.Allocs.{AllocMap, AreLeased}
use Rattle.gp_unit.specs.declared.record.Record.{Record}
use Rattle.gp_unit.specs.Rows.{allocs_left}
use Rattle.gp_unit.specs.Units.{freed_alloc}
use Rattle.gp_port_tests.proofs.unit.acknowledges.Goals as goal

pub alloc-requires-clause-room : goal.alloc-requires-clause-room
alloc-requires-clause-room c = rw c.requires.none (omega (arith, map.len-empty nat_cmp Bool))

pub alloc-requires-clause-new : goal.alloc-requires-clause-new
alloc-requires-clause-new c = rw c.requires.none (map.get-empty nat_cmp c.args.lease)

pub settle-row-requires-clause-onu : goal.settle-row-requires-clause-onu
settle-row-requires-clause-onu c =
    let pending : c.alloc.result.row.pending ≡ Some c.args.lease = ap (λ (u : Record). u.row.pending) c.alloc.ensures in
    let unit = c.acked-unit.ensures.unit c.args.lease pending in
    let onu : c.acked-unit.result.0.row.onu ≡ c.args.unit.row.onu = ap (λ (u : Record). u.row.onu) unit ∙ ap (λ (u : Record). u.row.onu) c.alloc.ensures in
    rw onu c.requires.onu

pub settle-row-requires-clause-allocs : goal.settle-row-requires-clause-allocs
settle-row-requires-clause-allocs c =
    let pending : c.alloc.result.row.pending ≡ Some c.args.lease = ap (λ (u : Record). u.row.pending) c.alloc.ensures in
    let unit = c.acked-unit.ensures.unit c.args.lease pending in
    let held : map.get c.alloc.result.row.allocs c.args.lease ≡ Some false = ap (λ (u : Record). map.get u.row.allocs c.args.lease) c.alloc.ensures ∙ get-insert_same c.args.unit.row.allocs c.args.lease false in
    let one : c.acked-unit.result.0.row.allocs ≡ map.insert map.empty c.args.lease false =
    ap (λ (u : Record). u.row.allocs) unit
    ∙ ap (λ (o : Option Bool). allocs_left c.alloc.result.row.allocs c.args.lease o) held
    ∙ ap (λ (u : Record). u.row.allocs) c.alloc.ensures
    ∙ ap (λ (m : AllocMap). map.insert m c.args.lease false) c.requires.none in
    subst (λ (m : AllocMap). AreLeased c.args.alloc_ids.now m) (sym one) (leased_with c.args.alloc_ids.now map.empty c.args.lease false (leased_none c.args.alloc_ids.now) c.requires.alloc)

pub give_back-requires : goal.give_back-requires
give_back-requires c =
    let pending : c.alloc.result.row.pending ≡ Some c.args.lease = ap (λ (u : Record). u.row.pending) c.alloc.ensures in
    let held : map.get c.alloc.result.row.allocs c.args.lease ≡ Some false = ap (λ (u : Record). map.get u.row.allocs c.args.lease) c.alloc.ensures ∙ get-insert_same c.args.unit.row.allocs c.args.lease false in
    let freed : c.acked-unit.result.1 ≡ None = c.acked-unit.ensures.freed c.args.lease pending ∙ ap (λ (o : Option Bool). freed_alloc c.args.lease o) held in
    absurd (cc (freed, c.in-Some.is))
