use Rattle.std.proofs.Common.{◌≡◌, ◌≤◌, ◌*◌, take}
use Rattle.std.specs.Prelude.{sum_by}
use Rattle.gp_workers.specs.Closing.{desk_rows}
use Rattle.gp_workers.proofs.desks.rows_in.Given as goal

abbrev pub invariant-loop-desk : goal.invariant-loop-desk
invariant-loop-desk g l = record {
  rows : l.all ≡ sum_by desk_rows (take l.desk-index l.desks);
  most : l.all ≤ 254 * l.desk-index;
}
