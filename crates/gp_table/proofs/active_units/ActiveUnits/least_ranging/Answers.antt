use Rattle.std.proofs.Common.{subst}
use Rattle.gp_machine.specs.State.{IsLeastRanging}
use Rattle.gp_table.proofs.Together.{table_rows}
use Rattle.gp_table.proofs.active_units.ActiveUnits.least_ranging.Goals as goal

pub returns : goal.returns
returns c = let q = c.self.inside in subst (λ rows. IsLeastRanging rows c.least_ranging.result) (table_rows q.table q.onus q.allocs _ c.self.view_is) c.least_ranging.ensures
