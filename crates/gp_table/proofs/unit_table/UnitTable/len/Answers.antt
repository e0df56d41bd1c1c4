use Rattle.std.proofs.Common.{ap, sym, ◌∙◌}
use Rattle.std.specs.FinMap as map
use Rattle.gp_table.specs.Index.{keys_of}
use Rattle.gp_table.proofs.Kept.{len-rows}
use Rattle.gp_table.proofs.Over.{same_rows}
use Rattle.gp_table.proofs.unit_table.UnitTable.len.Goals as goal

pub returns : goal.returns
returns c =
    let q = c.self.inside in
    c.len.ensures ∙ c.self.invariant.counted ∙ sym (len-rows q.records.slots (keys_of q.admissions)) ∙ ap map.len (same_rows q.records.slots q.admissions _ c.self.view_is)
