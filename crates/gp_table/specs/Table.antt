-- How the unit table is kept: a slab of records, an index by serial number, one by ONU-ID, and the sets of the
-- ranging and the operating ONU-IDs (this profile's own rule). No public clause cites this module.
-- Inside: no public contract cites this.
use Rattle.std.specs.Prelude.{◌≡◌, ℕ, ◌≤◌, Bool, true, false, IsTrue, List, length, Option, None, Some, is_some, count_by, slice_index_or}
use Rattle.std.specs.Ordering.{nat_cmp}
use Rattle.std.specs.FinMap as map
use Rattle.std.specs.FinSet as set
use Rattle.gp_ploam.specs.declared.message.Serial.{Serial}
use Rattle.gp_ploam.specs.OnuIds.{last_onu, onu_ids}
use Rattle.gp_ploam.specs.Serials.{serial_cmp}
use Rattle.gp_unit.specs.declared.record.Record.{Record}
use Rattle.gp_unit.specs.declared.row.Row.{Row}
use Rattle.gp_unit.specs.Records.{row_of, blank_row}
use Rattle.gp_table.specs.Values.{map_values}
use Rattle.gp_table.specs.Index.{Admissions, admitted_of, disabled_of, keys_of}
use Rattle.gp_table.specs.Rows.{Rows, IsInPhase}
use Rattle.gp_table.specs.Units.{Units}

-- the record or nothing at each key
abbrev pub Slots : Type 0
Slots = List (Option Record)

-- the record at a key
abbrev pub slot_at : Slots → ℕ → Option Record
slot_at slots key = slice_index_or slots key None

-- what a slot says of its unit
abbrev pub row_in : Option Record → Row
row_in None = blank_row
row_in (Some unit) = row_of unit

-- from each serial number to the row in the slot whose key the index has for it
abbrev pub rows_of : Slots → map.FinMap serial_cmp ℕ → Rows
rows_of slots serials = map_values (λ key. row_in (slot_at slots key)) serials

-- what the table stands for
abbrev pub units_of : Slots → Admissions → Units
units_of slots index =
    record { admitted = admitted_of index; rows = rows_of slots (keys_of index); disabled = disabled_of index }

-- the key that the index by ONU-ID has
abbrev pub key_of_onu : List (Option ℕ) → ℕ → Option ℕ
key_of_onu onus onu = slice_index_or onus onu None

-- the record of this serial number is at this key, and the other index has the key for its ONU-ID
pub record IsThere (slots : Slots) (onus : List (Option ℕ)) (serial : Serial) (key : ℕ) : Type 0 where
  pub unit : Record
  pub slot : slot_at slots key ≡ Some unit
  pub is_serial : unit.serial ≡ serial
  pub low : unit.row.onu ≤ last_onu
  pub indexed : key_of_onu onus unit.row.onu ≡ Some key

-- the record of this ONU-ID is at this key, and the other index has the key for its serial number
pub record IsHolder (slots : Slots) (serials : map.FinMap serial_cmp ℕ) (onu key : ℕ) : Type 0 where
  pub unit : Record
  pub slot : slot_at slots key ≡ Some unit
  pub is_onu : unit.row.onu ≡ onu
  pub indexed : map.get serials unit.serial ≡ Some key

-- the set has the ONU-IDs of the units that are ranging, or of those that are not
pub record IsSetOf (onus : set.FinSet nat_cmp) (rows : Rows) (ranging : Bool) : Type 0 where
  pub in_set : (onu : ℕ) → IsInPhase rows ranging onu → IsTrue (set.contains onus onu)
  pub of_set : (onu : ℕ) → IsTrue (set.contains onus onu) → IsInPhase rows ranging onu

-- what every unit table keeps: the indexes name the same records, no record stands beside them, and there is room
pub record IsKeptTable
    (slots : Slots) (capacity : ℕ) (serials : map.FinMap serial_cmp ℕ) (onus : List (Option ℕ))
    (ranging operating : set.FinSet nat_cmp) : Type 0 where
  pub room : onu_ids ≤ capacity
  pub counted : count_by is_some slots ≡ map.len serials
  pub places : length onus ≡ onu_ids
  pub there : (serial : Serial) (key : ℕ) → map.get serials serial ≡ Some key → IsThere slots onus serial key
  pub holder : (onu key : ℕ) → key_of_onu onus onu ≡ Some key → IsHolder slots serials onu key
  pub marks_ranging : IsSetOf ranging (rows_of slots serials) true
  pub marks_operating : IsSetOf operating (rows_of slots serials) false
