use Rattle.std.proofs.Common.{◌≡◌, ◌≤◌, ℕ, Option, ap, sym, ◌∙◌, arith, None, Some, refl, get_or, length}
use Rattle.std.proofs.lemmas.List.{get_or_default}
use Rattle.std.proofs.Math.ListN.{set}
use Rattle.std.specs.FinMap as map
use Rattle.gp_table.specs.Table.{key_of_onu}
use Rattle.gp_table.proofs.Tables.{Onus}
use Rattle.gp_table.proofs.Gets.{same_value, no_value}
use Rattle.gp_table.proofs.Kept.{indexed, holds, is_there, holder_is, kept-replace, written_over, count-written_over}
use Rattle.gp_table.proofs.Tables.{rows-replace}
use Rattle.gp_table.specs.Index.{keys_of}
use Rattle.gp_table.proofs.Over.{same_rows, units_are}
use Rattle.gp_table.proofs.unit_table.UnitTable.replace.Goals as goal

pub index-requires : goal.index-requires
index-requires c =
    let q = c.self.inside in
    let at = holds q.records.slots (keys_of q.admissions) q.onus.items c.args.unit.serial c.args.unit.row.onu (indexed _ _ _ _ _ _ c.self.invariant) (rw (same_rows q.records.slots q.admissions _ c.self.view_is) c.requires) in
    omega (arith, at.1, c.from.ensures, c.self.invariant.places)

-- the key that was read is the unit's
read : (onus : Onus) (onu place : ℕ) (got : Option ℕ) → length onus ≡ 254 → onu ≤ 253 → place ≡ onu → got ≡ get_or onus place got → got ≡ key_of_onu onus onu
read onus onu place got long low is e = e ∙ get_or_default onus place got None (omega arith) ∙ ap (key_of_onu onus) is

pub index_mut-requires : goal.index_mut-requires
index_mut-requires c =
    let q = c.self.inside in
    let both = indexed _ _ _ _ _ _ c.self.invariant in
    let at = holds q.records.slots (keys_of q.admissions) q.onus.items c.args.unit.serial c.args.unit.row.onu both (rw (same_rows q.records.slots q.admissions _ c.self.view_is) c.requires) in
    let key = read q.onus.items c.args.unit.row.onu c.from.result c.index.result.now c.self.invariant.places at.1 c.from.ensures c.index.ensures in
    let same : at.0 ≡ c.in-Some.key = same_value at.0 c.in-Some.key (sym at.2 ∙ sym key ∙ c.in-Some.is) in
    is_there q.records.slots (keys_of q.admissions) q.onus.items c.args.unit.serial c.in-Some.key both (at.3 ∙ ap Some same)

pub unreachable-requires : goal.unreachable-requires
unreachable-requires c =
    let q = c.self.inside in
    let at = holds q.records.slots (keys_of q.admissions) q.onus.items c.args.unit.serial c.args.unit.row.onu (indexed _ _ _ _ _ _ c.self.invariant) (rw (same_rows q.records.slots q.admissions _ c.self.view_is) c.requires) in
    let key = read q.onus.items c.args.unit.row.onu c.from.result c.index.result.now c.self.invariant.places at.1 c.from.ensures c.index.ensures in
    no_value at.0 (sym c.in-None.is ∙ key ∙ at.2)

pub invariant_of-self : goal.invariant_of-self
invariant_of-self c =
    let q = c.self.inside in
    let both = indexed _ _ _ _ _ _ c.self.invariant in
    let at = holds q.records.slots (keys_of q.admissions) q.onus.items c.args.unit.serial c.args.unit.row.onu both (rw (same_rows q.records.slots q.admissions _ c.self.view_is) c.requires) in
    let key = read q.onus.items c.args.unit.row.onu c.from.result c.index.result.now c.self.invariant.places at.1 c.from.ensures c.index.ensures in
    let same : at.0 ≡ c.in-Some.key = same_value at.0 c.in-Some.key (sym at.2 ∙ sym key ∙ c.in-Some.is) in
    let is : map.get (keys_of q.admissions) c.args.unit.serial ≡ Some c.in-Some.key = at.3 ∙ ap Some same in
    let there = c.self.invariant.there c.args.unit.serial c.in-Some.key is in
    rw (c.mark.ensures.ranging, c.mark.ensures.operating, c.is_ranging.ensures)
    (kept-replace q.records.slots (set q.records.slots c.in-Some.key (Some c.args.unit)) q.records.capacity (keys_of q.admissions) q.onus.items q.ranging q.operating c.in-Some.key c.args.unit
    c.self.invariant is (holder_is q.records.slots (keys_of q.admissions) q.onus.items c.args.unit.serial c.args.unit.row.onu c.in-Some.key both (rw (same_rows q.records.slots q.admissions _ c.self.view_is) c.requires) is)
    (written_over q.records.slots c.in-Some.key there.unit c.args.unit there.slot) (count-written_over q.records.slots c.in-Some.key there.unit c.args.unit there.slot))

pub returns : goal.returns
returns c =
    let q = c.self.inside in
    let both = indexed _ _ _ _ _ _ c.self.invariant in
    let at = holds q.records.slots (keys_of q.admissions) q.onus.items c.args.unit.serial c.args.unit.row.onu both (rw (same_rows q.records.slots q.admissions _ c.self.view_is) c.requires) in
    let key = read q.onus.items c.args.unit.row.onu c.from.result c.index.result.now c.self.invariant.places at.1 c.from.ensures c.index.ensures in
    let same : at.0 ≡ c.in-Some.key = same_value at.0 c.in-Some.key (sym at.2 ∙ sym key ∙ c.in-Some.is) in
    let is : map.get (keys_of q.admissions) c.args.unit.serial ≡ Some c.in-Some.key = at.3 ∙ ap Some same in
    let there = c.self.invariant.there c.args.unit.serial c.in-Some.key is in
    rw (← c.self.view_is)
    (units_are (set q.records.slots c.in-Some.key (Some c.args.unit)) q.admissions _ refl
    (rows-replace q.records.slots (set q.records.slots c.in-Some.key (Some c.args.unit)) (keys_of q.admissions) q.onus.items c.in-Some.key c.args.unit both is
    (written_over q.records.slots c.in-Some.key there.unit c.args.unit there.slot)) refl)
