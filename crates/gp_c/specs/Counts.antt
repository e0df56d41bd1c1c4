-- What C is told of a port's counts.
use Rattle.std.specs.Prelude.{◌+◌, length}
use Rattle.gp_machine.specs.State.{rows_of}
use Rattle.gp_chassis.specs.Desk.{DeskState}
use Rattle.gp_c.specs.declared.counts.PortCounts.{PortCounts}

-- what is counted of a port
abbrev pub counts_of : DeskState → PortCounts
counts_of desk =
    record {
      entries = desk.first + length desk.entries;
      first_kept = desk.first;
      units = rows_of desk.state;
      owed = length desk.state.owed;
    }
