use Rattle.std.proofs.Common.{◌≡◌, ℕ, Option, sym, subst, ◌∙◌, arith, None, Some, IfSome, IfNone, option_copied, Bor}
use Rattle.gp_unit.specs.declared.record.Record.{Record}
use Rattle.gp_unit.specs.Records.{row_of}
use Rattle.gp_table.specs.Rows.{Rows, HasRow, HasOnuId}
use Rattle.gp_table.specs.Table.{slot_at, key_of_onu, Slots, rows_of}
use Rattle.gp_table.proofs.Gets.{no_value}
use Rattle.gp_table.proofs.Tables.{Onus, Serials, IsIndexed}
use Rattle.gp_table.proofs.Kept.{indexed, holds, holder_has}
use Rattle.gp_table.specs.Index.{keys_of}
use Rattle.gp_table.proofs.Over.{same_rows}
use Rattle.gp_table.proofs.unit_table.UnitTable.holder.Goals as goal

pub returns-then-place-ge-PLACES-clause-none : goal.returns-then-place-ge-PLACES-clause-none
returns-then-place-ge-PLACES-clause-none c s has =
    let q = c.self.inside in
    let at = holds q.records.slots (keys_of q.admissions) q.onus.items s c.args.onu (indexed _ _ _ _ _ _ c.self.invariant) (subst (λ (rows : Rows). HasOnuId rows s c.args.onu) (sym (same_rows q.records.slots q.admissions _ c.self.view_is)) has) in
    omega (arith, at.1, c.from-place.ensures, c.if-place-ge-PLACES.true)

pub returns-in-None-clause-none : goal.returns-in-None-clause-none
returns-in-None-clause-none c s has =
    let q = c.self.inside in
    let at = holds q.records.slots (keys_of q.admissions) q.onus.items s c.args.onu (indexed _ _ _ _ _ _ c.self.invariant) (subst (λ (rows : Rows). HasOnuId rows s c.args.onu) (sym (same_rows q.records.slots q.admissions _ c.self.view_is)) has) in
    no_value at.0 (sym (rw (c.as_slice-onus.ensures.value, c.from-place.ensures) at c.in-None.is) ∙ at.2)

-- the record that was got
found : (slots : Slots) (serials : Serials) (onus : Onus) (onu key : ℕ) (r : Option (Bor Record)) → IsIndexed slots serials onus → key_of_onu onus onu ≡ Some key → option_copied r ≡ slot_at slots key
    → IfSome r (λ unit. (unit.now.row.onu ≡ onu) × HasRow (rows_of slots serials) unit.now.serial (row_of unit.now))
found slots serials onus onu key None h at got = tt
found slots serials onus onu key (Some unit) h at got = holder_has slots serials onus onu key unit.now h at (sym got)

absent : (P : Type 0) (r : Option (Bor Record)) (unit : Record) → option_copied r ≡ Some unit → IfNone r P
absent P None unit e = absurd (no_value unit e)
absent P (Some r) unit e = tt

pub returns-in-Some-clause-some : goal.returns-in-Some-clause-some
returns-in-Some-clause-some c =
    let q = c.self.inside in
    rw (← same_rows q.records.slots q.admissions _ c.self.view_is)
    (found q.records.slots (keys_of q.admissions) q.onus.items c.args.onu c.in-Some.key c.get.result (indexed _ _ _ _ _ _ c.self.invariant) (rw (c.as_slice-onus.ensures.value, c.from-place.ensures) at c.in-Some.is) c.get.ensures)

pub returns-in-Some-clause-none : goal.returns-in-Some-clause-none
returns-in-Some-clause-none c =
    let holder = c.self.invariant.holder c.args.onu c.in-Some.key (rw (c.as_slice-onus.ensures.value, c.from-place.ensures) at c.in-Some.is) in
    absent _ c.get.result holder.unit (c.get.ensures ∙ holder.slot)
