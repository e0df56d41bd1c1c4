use Rattle.std.proofs.Common.{ap, List, ℕ}
use Rattle.gp_table.specs.Active.{ActiveState, no_active_units}
use Rattle.gp_table.proofs.Counts.{counts-empty}
use Rattle.gp_table.proofs.Together.{together-none}
use Rattle.gp_table.proofs.active_units.ActiveUnits.begin.Goals as goal

pub invariant_of-result : goal.invariant_of-result
invariant_of-result c =
    rw (c.in_ok-table.ensures, c.new.ensures, c.new-2.ensures) (together-none c.args.limits.max_units c.args.limits.alloc_last c.args.limits.quarantine _ c.requires.units c.requires.allocs)

pub returns : goal.returns
returns c =
    let l = c.args.limits in
    rw (c.in_ok-table.ensures, c.new.ensures, c.new-2.ensures)
    (ap (λ (xs : List ℕ). let u : ActiveState = record (no_active_units c.args.admitted.now l.max_units l.alloc_last l.quarantine) { cooling = xs } in u) counts-empty)
