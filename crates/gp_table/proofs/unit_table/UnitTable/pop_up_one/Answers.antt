use Rattle.std.proofs.Common.{false, sym, ◌∙◌, arith}
use Rattle.gp_table.specs.Rows.{IsInPhase}
use Rattle.gp_table.specs.Table.{rows_of}
use Rattle.gp_table.proofs.Gets.{no_value}
use Rattle.gp_table.proofs.Kept.{indexed, holds, is_there, low_onu}
use Rattle.gp_table.proofs.PopOne.{key_read, kept-pop_up, pops_up}
use Rattle.gp_table.specs.Index.{keys_of}
use Rattle.gp_table.proofs.Over.{same_rows}
use Rattle.gp_table.proofs.unit_table.UnitTable.pop_up_one.Goals as goal

pub index-requires : goal.index-requires
index-requires c =
    let q = c.self.inside in
    let low = low_onu q.records.slots (keys_of q.admissions) q.onus.items false c.args.onu (indexed _ _ _ _ _ _ c.self.invariant) (rw (same_rows q.records.slots q.admissions _ c.self.view_is) c.requires) in
    omega (arith, low, c.from.ensures, c.self.invariant.places)

pub index_mut-requires : goal.index_mut-requires
index_mut-requires c =
    let q = c.self.inside in
    let both = indexed _ _ _ _ _ _ c.self.invariant in
    let low = low_onu q.records.slots (keys_of q.admissions) q.onus.items false c.args.onu both (rw (same_rows q.records.slots q.admissions _ c.self.view_is) c.requires) in
    let at = sym (key_read q.onus.items c.args.onu c.from.result c.index.result.now c.self.invariant.places low c.from.ensures c.index.ensures) ∙ c.in-Some.is in
    let holder = c.self.invariant.holder c.args.onu c.in-Some.key at in
    is_there q.records.slots (keys_of q.admissions) q.onus.items holder.unit.serial c.in-Some.key both holder.indexed

pub unreachable-requires : goal.unreachable-requires
unreachable-requires c =
    let q = c.self.inside in
    let both = indexed _ _ _ _ _ _ c.self.invariant in
    let operates : IsInPhase (rows_of q.records.slots (keys_of q.admissions)) false c.args.onu = rw (same_rows q.records.slots q.admissions _ c.self.view_is) c.requires in
    let low = low_onu q.records.slots (keys_of q.admissions) q.onus.items false c.args.onu both operates in
    let at = holds q.records.slots (keys_of q.admissions) q.onus.items operates.serial c.args.onu both (operates.row, operates.has, operates.is_onu) in
    no_value at.0 (sym c.in-None.is ∙ key_read q.onus.items c.args.onu c.from.result c.index.result.now c.self.invariant.places low c.from.ensures c.index.ensures ∙ at.2)

pub invariant_of-self : goal.invariant_of-self
invariant_of-self c =
    let q = c.self.inside in
    let low = low_onu q.records.slots (keys_of q.admissions) q.onus.items false c.args.onu (indexed _ _ _ _ _ _ c.self.invariant) (rw (same_rows q.records.slots q.admissions _ c.self.view_is) c.requires) in
    let at = sym (key_read q.onus.items c.args.onu c.from.result c.index.result.now c.self.invariant.places low c.from.ensures c.index.ensures) ∙ c.in-Some.is in
    rw (c.mark.ensures.ranging, c.mark.ensures.operating)
    (kept-pop_up q.records.slots q.records.capacity (keys_of q.admissions) q.onus.items q.ranging q.operating c.in-Some.key c.args.onu c.index_mut.result.now c.self.invariant at c.index_mut.ensures.value)

pub returns-clause-one : goal.returns-clause-one
returns-clause-one c =
    let q = c.self.inside in
    let low = low_onu q.records.slots (keys_of q.admissions) q.onus.items false c.args.onu (indexed _ _ _ _ _ _ c.self.invariant) (rw (same_rows q.records.slots q.admissions _ c.self.view_is) c.requires) in
    let at = sym (key_read q.onus.items c.args.onu c.from.result c.index.result.now c.self.invariant.places low c.from.ensures c.index.ensures) ∙ c.in-Some.is in
    rw (← same_rows q.records.slots q.admissions _ c.self.view_is)
    (pops_up q.records.slots q.records.capacity (keys_of q.admissions) q.onus.items q.ranging q.operating c.in-Some.key c.args.onu c.index_mut.result.now c.self.invariant at c.index_mut.ensures.value (rw (same_rows q.records.slots q.admissions _ c.self.view_is) c.requires))
