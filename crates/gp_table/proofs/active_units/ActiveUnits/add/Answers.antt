use Rattle.std.proofs.Common.{◌≡◌, None, refl, ap, ◌∙◌, false, ◌||◌, inl, inr}
use Rattle.std.proofs.lemmas.Bool.{cases_Bool}
use Rattle.std.specs.FinMap as map
use Rattle.std.specs.FinSet as set
use Rattle.gp_pools.specs.Onu.{onus_with_lease, onus_with_settled}
use Rattle.gp_pools.specs.Allocs.{numbers_of}
use Rattle.gp_pools.specs.Pool.{pool_with_all_settled}
use Rattle.gp_unit.specs.Rows.{new_row}
use Rattle.gp_table.specs.Rows.{Rows}
use Rattle.gp_pools.proofs.Callers.{leased_none}
use Rattle.gp_table.proofs.AllocEnds.{ends-add}
use Rattle.gp_table.proofs.PoolMembers.{onus-added}
use Rattle.gp_table.proofs.Together.{onu_is_free, same_range, table_rows, together-add}
use Rattle.gp_table.proofs.active_units.ActiveUnits.add.Goals as goal

pub lease-lease-requires-clause-free : goal.lease-lease-requires-clause-free
lease-lease-requires-clause-free c =
    let q = c.self.inside in (onu_is_free q.table.rows q.onus q.allocs c.self.invariant q.table c.args.self.now refl c.self.view_is c.args.onu c.requires.free).0

pub lease-lease-requires-clause-room : goal.lease-lease-requires-clause-room
lease-lease-requires-clause-room c =
    let q = c.self.inside in (onu_is_free q.table.rows q.onus q.allocs c.self.invariant q.table c.args.self.now refl c.self.view_is c.args.onu c.requires.free).1

pub settle-unit-requires-clause-allocs : goal.settle-unit-requires-clause-allocs
settle-unit-requires-clause-allocs c = rw c.begin.ensures (leased_none c.self.inside.allocs)

pub invariant_of-self : goal.invariant_of-self
invariant_of-self c =
    let q = c.self.inside in
    let h = c.self.invariant in
    let onu = c.args.onu in
    let free = (onu_is_free q.table.rows q.onus q.allocs h q.table c.args.self.now refl c.self.view_is onu c.requires.free).0 in
    let none : map.get q.table.rows c.args.serial ≡ None = ap (λ (rows : Rows). map.get rows c.args.serial) (table_rows q.table q.onus q.allocs _ c.self.view_is) ∙ c.requires.new in
    let unsettled : set.contains q.onus.pool.settled onu ≡ false = elim (cases_Bool (set.contains q.onus.pool.settled onu)) [
      | inl t ↦ absurd (free.0.2 (ap (λ b. b || set.contains q.onus.pool.settled onu) (h.onus_leased onu) ∙ t))
      | inr f ↦ f
    ] in
    rw (c.insert.ensures, c.settle-unit.ensures.onus, c.settle-unit.ensures.allocs, c.settle-unit.ensures.unit, c.begin.ensures, c.lease-lease.ensures.pool, c.lease-lease.ensures.number, onus-added q.onus onu h.onus_leased)
    (together-add q.table.rows q.onus q.allocs h c.args.serial onu (pool_with_all_settled q.allocs (numbers_of map.empty)) none unsettled free.1 (ends-add q.allocs h.allocs_leased))

pub returns : goal.returns
returns c =
    let q = c.self.inside in
    let h = c.self.invariant in
    let ends = ends-add q.allocs h.allocs_leased in
    rw (c.insert.ensures, c.settle-unit.ensures.onus, c.settle-unit.ensures.allocs, c.settle-unit.ensures.unit, c.begin.ensures, c.lease-lease.ensures.pool, c.lease-lease.ensures.number, ← c.self.view_is)
    (same_range (record q.table { rows = map.insert q.table.rows c.args.serial (new_row c.args.onu) }) (onus_with_settled (onus_with_lease q.onus c.args.onu) c.args.onu) q.allocs (pool_with_all_settled q.allocs (numbers_of map.empty)) ends.same_last)
