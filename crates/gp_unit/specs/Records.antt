-- A row, and the record that keeps it with the serial number of its unit (this profile's own rule).
use Rattle.std.specs.Prelude.{None, false}
use Rattle.std.specs.FinMap.{empty, entries}
use Rattle.gp_ploam.specs.declared.message.Serial.{Serial}
use Rattle.gp_unit.specs.declared.row.Phase.TheVariants.{Ranging}
use Rattle.gp_unit.specs.declared.row.Row.{Row}
use Rattle.gp_unit.specs.declared.record.Record.{Record}
use Rattle.gp_unit.specs.declared.row_view.RowView.{RowView}
use Rattle.gp_pools.specs.Slots.{slots_of}

-- what a record says beside the serial number
abbrev pub row_of : Record → Row
row_of unit = unit.row

-- the record of the unit with this serial number and this row
abbrev pub record_of : Serial → Row → Record
record_of serial row = record { serial = serial; row = row }

-- a row that says nothing
abbrev pub blank_row : Row
blank_row = record { onu = 0; allocs = empty; pending = None; waiting = 0; phase = Ranging 0 false }

-- a row as plain data: its further Alloc-IDs stand in rising order in eight places
abbrev pub view_of : Row → RowView
view_of row =
    record {
      onu = row.onu;
      allocs = slots_of (entries row.allocs);
      pending = row.pending;
      waiting = row.waiting;
      phase = row.phase;
    }
