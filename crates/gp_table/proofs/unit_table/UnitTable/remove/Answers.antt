use Rattle.std.proofs.Common.{ap, sym, ◌∙◌, arith, None}
use Rattle.std.specs.Option.{option_map}
use Rattle.std.specs.FinMap as map
use Rattle.gp_unit.specs.Records.{record_of}
use Rattle.gp_table.specs.Index.{keys_of, with_key}
use Rattle.gp_table.specs.Table.{rows_of}
use Rattle.gp_table.proofs.Admissions.{admitted_stays, disabled_stays, get-keys_of, keys_of-remove}
use Rattle.gp_table.proofs.Entries.{remove-absent}
use Rattle.gp_table.proofs.Kept.{indexed, is_there, kept-remove, low_unit, record_there, record_absent}
use Rattle.gp_table.proofs.Over.{same_rows, units_are}
use Rattle.gp_table.proofs.Tables.{rows-remove, no_row_there}
use Rattle.gp_table.proofs.unit_table.UnitTable.remove.Goals as goal

pub remove-unit-requires : goal.remove-unit-requires
remove-unit-requires c =
    let q = c.self.inside in
    let at = get-keys_of q.admissions c.args.serial.now ∙ sym c.in-Some.ensures.key in
    is_there q.records.slots (keys_of q.admissions) q.onus.items c.args.serial.now c.in-Some.key (indexed _ _ _ _ _ _ c.self.invariant) at

pub index_mut-requires : goal.index_mut-requires
index_mut-requires c =
    let q = c.self.inside in
    let at = get-keys_of q.admissions c.args.serial.now ∙ sym c.in-Some.ensures.key in
    let low = low_unit q.records.slots (keys_of q.admissions) q.onus.items c.args.serial.now c.in-Some.key c.remove-unit.result (indexed _ _ _ _ _ _ c.self.invariant) at c.remove-unit.ensures.value in
    omega (arith, low, c.from.ensures, c.self.invariant.places)

pub invariant_of-self : goal.invariant_of-self
invariant_of-self c =
    let q = c.self.inside in
    let gone = c.remove-unit.ensures in
    let at = get-keys_of q.admissions c.args.serial.now ∙ sym c.in-Some.ensures.key in
    let low = low_unit q.records.slots (keys_of q.admissions) q.onus.items c.args.serial.now c.in-Some.key c.remove-unit.result (indexed _ _ _ _ _ _ c.self.invariant) at gone.value in
    rw (c.take_key.ensures.rest, keys_of-remove q.admissions c.args.serial.now, c.remove.ensures, c.remove-in-Some.ensures, c.from.ensures, c.from-in-Some.ensures, c.from-in-Some-2.ensures, gone.capacity)
    (kept-remove q.records.slots c.remove-unit.new.self.slots q.records.capacity (keys_of q.admissions) q.onus.items q.ranging q.operating c.in-Some.key c.args.serial.now c.remove-unit.result
    c.self.invariant at gone.value low (record { here = gone.updates.changed; elsewhere = gone.updates.others }) gone.len)

pub invariant_of-self-in-None : goal.invariant_of-self-in-None
invariant_of-self-in-None c =
    let q = c.self.inside in
    let none = get-keys_of q.admissions c.args.serial.now ∙ sym c.in-None.ensures.key in
    rw (c.take_key.ensures.rest, keys_of-remove q.admissions c.args.serial.now, ← remove-absent (keys_of q.admissions) c.args.serial.now none) c.self.invariant

pub returns-in-Some-clause-unit : goal.returns-in-Some-clause-unit
returns-in-Some-clause-unit c =
    let q = c.self.inside in
    let at = get-keys_of q.admissions c.args.serial.now ∙ sym c.in-Some.ensures.key in
    sym c.remove-unit.ensures.value
    ∙ record_there q.records.slots (keys_of q.admissions) q.onus.items c.args.serial.now c.in-Some.key (indexed _ _ _ _ _ _ c.self.invariant) at
    ∙ ap (λ m. option_map (record_of c.args.serial.now) (map.get m c.args.serial.now)) (same_rows q.records.slots q.admissions _ c.self.view_is)

pub returns-in-Some-clause-rest : goal.returns-in-Some-clause-rest
returns-in-Some-clause-rest c =
    let q = c.self.inside in
    let gone = c.remove-unit.ensures in
    let at = get-keys_of q.admissions c.args.serial.now ∙ sym c.in-Some.ensures.key in
    rw (c.take_key.ensures.rest, ← c.self.view_is)
    (units_are c.remove-unit.new.self.slots _ _
    (admitted_stays q.admissions c.args.serial.now (with_key None))
    (rw (keys_of-remove q.admissions c.args.serial.now)
    (rows-remove q.records.slots c.remove-unit.new.self.slots (keys_of q.admissions) q.onus.items c.in-Some.key c.args.serial.now c.remove-unit.result
    (indexed _ _ _ _ _ _ c.self.invariant) at gone.value (record { here = gone.updates.changed; elsewhere = gone.updates.others })))
    (disabled_stays q.admissions c.args.serial.now None))

pub returns-in-None-clause-unit : goal.returns-in-None-clause-unit
returns-in-None-clause-unit c =
    let q = c.self.inside in
    let none = get-keys_of q.admissions c.args.serial.now ∙ sym c.in-None.ensures.key in
    record_absent q.records.slots (keys_of q.admissions) c.args.serial.now none
    ∙ ap (λ m. option_map (record_of c.args.serial.now) (map.get m c.args.serial.now)) (same_rows q.records.slots q.admissions _ c.self.view_is)

pub returns-in-None-clause-rest : goal.returns-in-None-clause-rest
returns-in-None-clause-rest c =
    let q = c.self.inside in
    let none = get-keys_of q.admissions c.args.serial.now ∙ sym c.in-None.ensures.key in
    rw (c.take_key.ensures.rest, ← c.self.view_is)
    (units_are q.records.slots _ _
    (admitted_stays q.admissions c.args.serial.now (with_key None))
    (rw (keys_of-remove q.admissions c.args.serial.now, ← remove-absent (keys_of q.admissions) c.args.serial.now none)
    (remove-absent (rows_of q.records.slots (keys_of q.admissions)) c.args.serial.now (no_row_there q.records.slots (keys_of q.admissions) c.args.serial.now none)))
    (disabled_stays q.admissions c.args.serial.now None))
