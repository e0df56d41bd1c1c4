use Rattle.std.proofs.Common.{ap, ◌∙◌, arith, Some}
use Rattle.std.specs.FinMap as map
use Rattle.std.specs.FinSet as set
use Rattle.gp_table.specs.Index.{keys_of}
use Rattle.gp_table.proofs.Admissions.{admitted_stays, disabled_stays, keys_of-insert}
use Rattle.gp_table.specs.Index.{with_key}
use Rattle.gp_table.proofs.Kept.{indexed, len-rows, kept-insert}
use Rattle.gp_table.proofs.Over.{same_admitted, same_rows, units_are}
use Rattle.gp_table.proofs.Tables.{unknown, rows-insert}
use Rattle.gp_table.proofs.unit_table.UnitTable.insert.Goals as goal

pub insert_reserved-key-requires : goal.insert_reserved-key-requires
insert_reserved-key-requires c =
    let q = c.self.inside in
    let size = len-rows q.records.slots (keys_of q.admissions) in
    let same = ap map.len (same_rows q.records.slots q.admissions _ c.self.view_is) in
    omega (arith, size, same, c.requires.room, c.self.invariant.counted, c.self.invariant.room)

pub invariant_of-self : goal.invariant_of-self
invariant_of-self c =
    let q = c.self.inside in
    let added = c.insert_reserved-key.ensures in
    let rows = same_rows q.records.slots q.admissions _ c.self.view_is in
    let admitted = ap (λ s. set.contains s c.args.unit.serial) (same_admitted q.records.slots q.admissions _ c.self.view_is) ∙ c.requires.admitted in
    rw (c.set_key.ensures, keys_of-insert q.admissions c.args.unit.serial c.insert_reserved-key.result admitted, c.from.ensures, c.mark.ensures.ranging, c.mark.ensures.operating, c.is_ranging.ensures, added.capacity)
    (kept-insert q.records.slots c.insert_reserved-key.new.self.slots q.records.capacity (keys_of q.admissions) q.onus.items q.ranging q.operating c.insert_reserved-key.result c.args.unit
    c.self.invariant added.was_vacant (record { here = added.updates.changed; elsewhere = added.updates.others }) added.len
    (rw rows c.requires.new) c.requires.low (rw rows c.requires.unused))

pub returns : goal.returns
returns c =
    let q = c.self.inside in
    let added = c.insert_reserved-key.ensures in
    let rows = same_rows q.records.slots q.admissions _ c.self.view_is in
    let admitted = ap (λ s. set.contains s c.args.unit.serial) (same_admitted q.records.slots q.admissions _ c.self.view_is) ∙ c.requires.admitted in
    rw (c.set_key.ensures, ← c.self.view_is)
    (units_are c.insert_reserved-key.new.self.slots _ _
    (admitted_stays q.admissions c.args.unit.serial (with_key (Some c.insert_reserved-key.result)))
    (rw (keys_of-insert q.admissions c.args.unit.serial c.insert_reserved-key.result admitted)
    (rows-insert q.records.slots c.insert_reserved-key.new.self.slots (keys_of q.admissions) q.onus.items c.insert_reserved-key.result c.args.unit
    (indexed _ _ _ _ _ _ c.self.invariant) added.was_vacant (record { here = added.updates.changed; elsewhere = added.updates.others })
    (unknown q.records.slots (keys_of q.admissions) c.args.unit.serial (rw rows c.requires.new))))
    (disabled_stays q.admissions c.args.unit.serial (Some c.insert_reserved-key.result)))
