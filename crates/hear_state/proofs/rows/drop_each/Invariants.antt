use Rattle.std.proofs.Common.{◌≡◌, ℕ, ◌<◌, map, get_or}
use Rattle.hear_state.specs.Rows.{dropped_row, unheard_row}
use Rattle.hear_state.proofs.rows.drop_each.Given as goal

-- once all are changed it comes to the same, and those so far are
abbrev pub invariant-loop-row : goal.invariant-loop-row
invariant-loop-row l = record {
  same : map dropped_row l.rows ≡ map dropped_row l.initial.rows;
  done : (i : ℕ) → i < l.row-index → dropped_row (get_or l.rows i unheard_row) ≡ get_or l.rows i unheard_row;
}
