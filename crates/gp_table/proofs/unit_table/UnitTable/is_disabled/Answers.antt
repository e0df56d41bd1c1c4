use Rattle.std.proofs.Common.{ap, sym, ◌∙◌}
use Rattle.std.specs.FinSet as set
use Rattle.gp_table.specs.Index.{disabled_in}
use Rattle.gp_table.proofs.Admissions.{contains-disabled_of}
use Rattle.gp_table.proofs.Over.{same_disabled}
use Rattle.gp_table.proofs.unit_table.UnitTable.is_disabled.Goals as goal

pub returns-in-Some : goal.returns-in-Some
returns-in-Some c =
    let q = c.self.inside in
    ap disabled_in c.in-Some.ensures ∙ sym (contains-disabled_of q.admissions c.args.serial.now) ∙ ap (λ s. set.contains s c.args.serial.now) (same_disabled q.records.slots q.admissions _ c.self.view_is)

pub returns-in-None : goal.returns-in-None
returns-in-None c =
    let q = c.self.inside in
    ap disabled_in c.in-None.ensures ∙ sym (contains-disabled_of q.admissions c.args.serial.now) ∙ ap (λ s. set.contains s c.args.serial.now) (same_disabled q.records.slots q.admissions _ c.self.view_is)
