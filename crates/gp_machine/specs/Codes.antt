-- How the state of a port is coded, for the types that show one.
-- Inside: no public contract cites this.
use Rattle.std.specs.FinMap as map
use Rattle.std.specs.FinSet as set
use Rattle.std.specs.FinSet.{FinSet}
use Rattle.std.specs.Coded.{Coded, codes}
use Rattle.gp_ploam.specs.Serials.{serial_cmp, coded_serial}
use Rattle.gp_unit.specs.contracts.row.Row as row
use Rattle.gp_machine.specs.State.{Rows}

-- the rows of units, by their serial numbers
abbrev pub coded_rows : Coded Rows
coded_rows = map.code {R = serial_cmp} coded_serial row.the_row.coded

-- a set of serial numbers
abbrev pub coded_serials : Coded (FinSet serial_cmp)
coded_serials = set.code {R = serial_cmp} coded_serial

-- all of them, with those of the standard library
pub ruleset port_codes = (codes, coded_rows, coded_serials)
