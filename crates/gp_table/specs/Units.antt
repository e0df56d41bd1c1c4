-- What a unit table stands for: the admitted serial numbers of a port, its active units, and the disabled ones.
-- Inside: no public contract cites this.
use Rattle.std.specs.Prelude.{List, Option, None, Some, if◌then◌else◌}
use Rattle.std.specs.FinMap as map
use Rattle.std.specs.FinSet as set
use Rattle.gp_ploam.specs.declared.message.Serial.{Serial}
use Rattle.gp_ploam.specs.Serials.{serial_cmp}
use Rattle.gp_table.specs.declared.unit_table.UnitEntry.{UnitEntry}
use Rattle.gp_table.specs.Rows.{Rows}

-- the admitted serial numbers, from the serial number of each active unit to its row, and the disabled serial numbers
pub record Units : Type 0 where
  pub admitted : set.FinSet serial_cmp
  pub rows : Rows
  pub disabled : set.FinSet serial_cmp

-- no units, and these serial numbers admitted
abbrev pub no_units : List Serial → Units
no_units serials = record { admitted = set.from_list serials; rows = map.empty; disabled = set.empty }

-- what the table has for a serial number; None where it isn't admitted
abbrev pub entry_for : Units → Serial → Option UnitEntry
entry_for units serial =
    if set.contains units.admitted serial
    then Some (record { disabled = set.contains units.disabled serial; row = map.get units.rows serial })
    else None
