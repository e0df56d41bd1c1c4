use Rattle.std.proofs.Common.{false, ap}
use Rattle.gp_table.specs.Index.{with_disabled}
use Rattle.gp_table.specs.Table.{rows_of}
use Rattle.gp_table.proofs.Admissions.{admitted_stays, disabled_of-remove, keys_stay}
use Rattle.gp_table.proofs.Over.{units_are}
use Rattle.gp_table.proofs.unit_table.UnitTable.enable.Goals as goal

pub invariant_of-self : goal.invariant_of-self
invariant_of-self c =
    let q = c.self.inside in
    rw (c.set_disabled.ensures, keys_stay q.admissions c.args.serial.now false) c.self.invariant

pub returns : goal.returns
returns c =
    let q = c.self.inside in
    rw (c.set_disabled.ensures, ← c.self.view_is)
    (units_are q.records.slots _ _ (admitted_stays q.admissions c.args.serial.now (with_disabled false)) (ap (rows_of q.records.slots) (keys_stay q.admissions c.args.serial.now false)) (disabled_of-remove q.admissions c.args.serial.now))
