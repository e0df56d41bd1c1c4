use Rattle.std.proofs.Common.{◌≡◌, ◌+◌}
use Rattle.gp_table.specs.Rows.{count_operating, popped_rows}
use Rattle.gp_table.proofs.unit_table.UnitTable.pop_up.Given as goal

-- what is still to be done comes to the same, as many are counted as were changed, and only rows change
abbrev pub invariant-loop-count : goal.invariant-loop-count
invariant-loop-count l = record {
  same : popped_rows l.self.rows ≡ popped_rows l.fn.self.rows;
  counted : l.count + count_operating l.self.rows ≡ count_operating l.fn.self.rows;
  rest : l.self ≡ record l.fn.self { rows = l.self.rows };
}
