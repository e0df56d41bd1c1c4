use Rattle.std.proofs.Common.{ap, List, ℕ}
use Rattle.gp_table.specs.Active.{ActiveState, active_of}
use Rattle.gp_table.proofs.Counts.{counts-after_frame}
use Rattle.gp_table.proofs.Together.{together-tick}
use Rattle.gp_table.proofs.active_units.ActiveUnits.tick.Goals as goal

pub invariant_of-self : goal.invariant_of-self
invariant_of-self c = let q = c.self.inside in rw c.tick.ensures (together-tick q.table.rows q.onus q.allocs c.self.invariant)

pub returns : goal.returns
returns c =
    let q = c.self.inside in
    rw (c.tick.ensures, ← c.self.view_is)
    (ap (λ (xs : List ℕ). let u : ActiveState = record (active_of q.table q.onus q.allocs) { cooling = xs } in u) (counts-after_frame q.onus.quarantine.cooling))
