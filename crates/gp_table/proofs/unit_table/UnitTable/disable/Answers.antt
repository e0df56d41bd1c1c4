use Rattle.std.proofs.Common.{true, ap, ◌∙◌}
use Rattle.std.specs.FinSet as set
use Rattle.gp_table.specs.Index.{with_disabled}
use Rattle.gp_table.specs.Table.{rows_of}
use Rattle.gp_table.proofs.Admissions.{admitted_stays, disabled_of-insert, keys_stay}
use Rattle.gp_table.proofs.Over.{same_admitted, units_are}
use Rattle.gp_table.proofs.unit_table.UnitTable.disable.Goals as goal

pub invariant_of-self : goal.invariant_of-self
invariant_of-self c =
    let q = c.self.inside in
    rw (c.set_disabled.ensures, keys_stay q.admissions c.args.serial.now true) c.self.invariant

pub returns : goal.returns
returns c =
    let q = c.self.inside in
    let admitted = ap (λ s. set.contains s c.args.serial.now) (same_admitted q.records.slots q.admissions _ c.self.view_is) ∙ c.requires.admitted in
    rw (c.set_disabled.ensures, ← c.self.view_is)
    (units_are q.records.slots _ _ (admitted_stays q.admissions c.args.serial.now (with_disabled true)) (ap (rows_of q.records.slots) (keys_stay q.admissions c.args.serial.now true)) (disabled_of-insert q.admissions c.args.serial.now admitted))
