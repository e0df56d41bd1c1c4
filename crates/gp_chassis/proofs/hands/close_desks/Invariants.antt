use Rattle.std.proofs.Common.{◌≡◌, ◌+◌}
use Rattle.std.specs.Prelude.{sum_by}
use Rattle.gp_machine.specs.State.{rows_of}
use Rattle.gp_chassis.specs.Desk.{DeskState}
use Rattle.gp_chassis.proofs.hands.close_desks.Given as goal

abbrev pub invariant-loop-desk : goal.invariant-loop-desk
invariant-loop-desk g l = record {
  free : l.book.free + sum_by (λ (d : DeskState). rows_of d.state) l.desks.items ≡ l.initial.book.free + sum_by (λ (d : DeskState). rows_of d.state) l.initial.desks.items;
  total : l.book.total ≡ l.initial.book.total;
}

abbrev pub decreases-loop-desk : goal.decreases-loop-desk
decreases-loop-desk g l = goal.left-loop-desk g l
