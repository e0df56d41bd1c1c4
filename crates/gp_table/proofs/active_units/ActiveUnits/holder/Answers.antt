use Rattle.std.proofs.Common.{subst, IfNone}
use Rattle.gp_ploam.specs.declared.message.Serial.{Serial}
use Rattle.gp_table.specs.Rows.{HasOnuId}
use Rattle.gp_table.proofs.Together.{table_rows}
use Rattle.gp_table.proofs.active_units.ActiveUnits.holder.Goals as goal

pub returns-clause-none : goal.returns-clause-none
returns-clause-none c =
    let q = c.self.inside in
    subst (λ rows. IfNone c.holder.result ((serial : Serial) → HasOnuId rows serial c.args.onu → ⊥)) (table_rows q.table q.onus q.allocs _ c.self.view_is) c.holder.ensures.none
