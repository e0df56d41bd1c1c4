use Rattle.std.proofs.Common.{refl}
use Rattle.gp_table.specs.Rows.{popped_row}
use Rattle.gp_table.proofs.Together.{together-mapped}
use Rattle.gp_table.proofs.active_units.ActiveUnits.pop_up_all.Goals as goal

pub invariant_of-self : goal.invariant_of-self
invariant_of-self c = let q = c.self.inside in rw c.pop_up.ensures.rows (together-mapped q.table.rows q.onus q.allocs c.self.invariant popped_row (λ row. refl) (λ row. refl))
