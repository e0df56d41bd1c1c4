use Rattle.std.proofs.Common.{ap, sym, ◌∙◌, is_some}
use Rattle.std.specs.FinSet as set
use Rattle.gp_table.proofs.Admissions.{contains-admitted_of}
use Rattle.gp_table.proofs.Over.{same_admitted}
use Rattle.gp_table.proofs.unit_table.UnitTable.is_admitted.Goals as goal

pub returns : goal.returns
returns c =
    let q = c.self.inside in
    c.is_some.ensures ∙ ap is_some c.get.ensures ∙ sym (contains-admitted_of q.admissions c.args.serial.now)
    ∙ ap (λ s. set.contains s c.args.serial.now) (same_admitted q.records.slots q.admissions _ c.self.view_is)
