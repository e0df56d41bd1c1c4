use Rattle.std.proofs.Common.{ap}
use Rattle.gp_table.specs.Table.{rows_of}
use Rattle.gp_table.proofs.Admissions.{admitted_of-enabled, disabled_of-enabled, keys_of-enabled}
use Rattle.gp_table.proofs.Over.{units_are}
use Rattle.gp_table.proofs.unit_table.UnitTable.enable_all.Goals as goal

pub invariant_of-self : goal.invariant_of-self
invariant_of-self c = let q = c.self.inside in rw (c.enable_all.ensures, keys_of-enabled q.admissions) c.self.invariant

pub returns : goal.returns
returns c =
    let q = c.self.inside in
    rw (c.enable_all.ensures, ← c.self.view_is)
    (units_are q.records.slots _ _ (admitted_of-enabled q.admissions) (ap (rows_of q.records.slots) (keys_of-enabled q.admissions)) (disabled_of-enabled q.admissions))
