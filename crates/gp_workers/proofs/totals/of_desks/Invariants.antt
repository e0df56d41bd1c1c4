use Rattle.std.proofs.Common.{take, map, ◌*◌, ◌≤◌}
use Rattle.std.specs.Prelude.{sum_by}
use Rattle.gp_chassis.specs.Desk.{DeskState}
use Rattle.gp_workers.specs.Totals.{AreTotals, AtMost}
use Rattle.gp_workers.specs.Closing.{desk_rows}
use Rattle.gp_workers.proofs.totals.of_desks.Given as goal

abbrev pub invariant-loop-desk : goal.invariant-loop-desk
invariant-loop-desk g l = record {
  totals : AreTotals l.all (map (λ (desk : DeskState). desk.entries) (take l.desk-index l.desks)) (sum_by desk_rows (take l.desk-index l.desks));
  most : AtMost l.all (1000000 * l.desk-index);
  units : l.all.units ≤ 254 * l.desk-index;
}
