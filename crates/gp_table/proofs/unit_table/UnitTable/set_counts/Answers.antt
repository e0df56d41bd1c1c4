use Rattle.std.proofs.Common.{◌≡◌, Some, refl, sym, ap, ◌∙◌, arith}
use Rattle.std.proofs.Math.ListN.{set}
use Rattle.gp_table.specs.Rows.{HasRow}
use Rattle.gp_table.specs.Table.{rows_of}
use Rattle.gp_table.specs.Index.{keys_of}
use Rattle.gp_table.proofs.Gets.{same_value, no_value}
use Rattle.gp_table.proofs.Kept.{indexed, holds, is_there}
use Rattle.gp_table.proofs.PopOne.{key_read}
use Rattle.gp_table.proofs.Recounted.{recounted, kept-set_counts, rows-set_counts}
use Rattle.gp_table.proofs.Over.{same_rows, units_are}
use Rattle.gp_table.proofs.unit_table.UnitTable.set_counts.Goals as goal

pub index-requires : goal.index-requires
index-requires c =
    let q = c.self.inside in
    let has : HasRow (rows_of q.records.slots (keys_of q.admissions)) c.args.unit.serial c.args.unit.row = rw (same_rows q.records.slots q.admissions _ c.self.view_is) c.requires in
    let at = holds q.records.slots (keys_of q.admissions) q.onus.items c.args.unit.serial c.args.unit.row.onu (indexed _ _ _ _ _ _ c.self.invariant) (c.args.unit.row, has, refl) in
    omega (arith, at.1, c.from.ensures, c.self.invariant.places)

pub index_mut-requires : goal.index_mut-requires
index_mut-requires c =
    let q = c.self.inside in
    let both = indexed _ _ _ _ _ _ c.self.invariant in
    let has : HasRow (rows_of q.records.slots (keys_of q.admissions)) c.args.unit.serial c.args.unit.row = rw (same_rows q.records.slots q.admissions _ c.self.view_is) c.requires in
    let at = holds q.records.slots (keys_of q.admissions) q.onus.items c.args.unit.serial c.args.unit.row.onu both (c.args.unit.row, has, refl) in
    let key = key_read q.onus.items c.args.unit.row.onu c.from.result c.index.result.now c.self.invariant.places at.1 c.from.ensures c.index.ensures in
    let same : at.0 ≡ c.in-Some.key = same_value at.0 c.in-Some.key (sym at.2 ∙ sym key ∙ c.in-Some.is) in
    is_there q.records.slots (keys_of q.admissions) q.onus.items c.args.unit.serial c.in-Some.key both (at.3 ∙ ap Some same)

pub unreachable-requires : goal.unreachable-requires
unreachable-requires c =
    let q = c.self.inside in
    let has : HasRow (rows_of q.records.slots (keys_of q.admissions)) c.args.unit.serial c.args.unit.row = rw (same_rows q.records.slots q.admissions _ c.self.view_is) c.requires in
    let at = holds q.records.slots (keys_of q.admissions) q.onus.items c.args.unit.serial c.args.unit.row.onu (indexed _ _ _ _ _ _ c.self.invariant) (c.args.unit.row, has, refl) in
    let key = key_read q.onus.items c.args.unit.row.onu c.from.result c.index.result.now c.self.invariant.places at.1 c.from.ensures c.index.ensures in
    no_value at.0 (sym c.in-None.is ∙ key ∙ at.2)

pub invariant_of-self : goal.invariant_of-self
invariant_of-self c =
    let q = c.self.inside in
    let has : HasRow (rows_of q.records.slots (keys_of q.admissions)) c.args.unit.serial c.args.unit.row = rw (same_rows q.records.slots q.admissions _ c.self.view_is) c.requires in
    let low = (holds q.records.slots (keys_of q.admissions) q.onus.items c.args.unit.serial c.args.unit.row.onu (indexed _ _ _ _ _ _ c.self.invariant) (c.args.unit.row, has, refl)).1 in
    let at = sym (key_read q.onus.items c.args.unit.row.onu c.from.result c.index.result.now c.self.invariant.places low c.from.ensures c.index.ensures) ∙ c.in-Some.is in
    rw c.set_counts.ensures
    (kept-set_counts q.records.slots q.records.capacity (keys_of q.admissions) q.onus.items q.ranging q.operating c.in-Some.key c.args.unit.row.onu c.index_mut.result.now _ c.self.invariant at c.index_mut.ensures.value)

pub returns : goal.returns
returns c =
    let q = c.self.inside in
    let has : HasRow (rows_of q.records.slots (keys_of q.admissions)) c.args.unit.serial c.args.unit.row = rw (same_rows q.records.slots q.admissions _ c.self.view_is) c.requires in
    let low = (holds q.records.slots (keys_of q.admissions) q.onus.items c.args.unit.serial c.args.unit.row.onu (indexed _ _ _ _ _ _ c.self.invariant) (c.args.unit.row, has, refl)).1 in
    let at = sym (key_read q.onus.items c.args.unit.row.onu c.from.result c.index.result.now c.self.invariant.places low c.from.ensures c.index.ensures) ∙ c.in-Some.is in
    rw (c.set_counts.ensures, ← c.self.view_is)
    (units_are (set q.records.slots c.in-Some.key (Some (recounted c.index_mut.result.now c.args.counts))) q.admissions _ refl
    (rows-set_counts q.records.slots q.records.capacity (keys_of q.admissions) q.onus.items q.ranging q.operating c.in-Some.key c.args.unit.row.onu c.index_mut.result.now c.args.counts c.self.invariant at c.index_mut.ensures.value
    c.args.unit.serial c.args.unit.row has refl) refl)
