-- The active units of a port together with the numbers that they have, and those that are free (the ONU-IDs are
-- G.984.3's, clause 9; the further Alloc-IDs from 256 on are its clause 8; the quarantine is this profile's own
-- rule).
use Rattle.std.specs.Prelude.{◌≡◌, ◌≢◌, ℕ, ◌<◌, ◌≤◌, ◌==◌, Bool, true, false, List, map, replicate, get_or, set, Option, None, Some, if◌then◌else◌}
use Rattle.std.specs.List.{range_with_len}
use Rattle.std.specs.FinMap as finmap
use Rattle.std.specs.FinSet as finset
use Rattle.gp_ploam.specs.declared.message.Serial.{Serial}
use Rattle.gp_ploam.specs.OnuIds.{onu_ids, last_onu as greatest_onu}
use Rattle.gp_ploam.specs.Serials.{serial_cmp}
use Rattle.gp_pools.specs.Cooling.{FramesLeft}
use Rattle.gp_pools.specs.Limits.{first_alloc_id, last_alloc_id}
use Rattle.gp_pools.specs.Onu.{OnuPool}
use Rattle.gp_pools.specs.Pool.{Pool, pool_without_lease}
use Rattle.gp_unit.specs.declared.row.Row.{Row}
use Rattle.gp_unit.specs.Rows.{has_alloc}
use Rattle.gp_table.specs.declared.unit_table.UnitEntry.{UnitEntry}
use Rattle.gp_table.specs.Rows.{Rows, HasRow}
use Rattle.gp_table.specs.Units.{Units}

-- the admitted serial numbers, from the serial number of each active unit to its row, and the disabled serial
-- numbers; how many units may be active, the greatest Alloc-ID, for how many frames a freed ONU-ID is given to no
-- other unit, and for each ONU-ID, from 0 on, how many of these frames are left
pub record ActiveState : Type 0 where
  pub admitted : finset.FinSet serial_cmp
  pub rows : Rows
  pub disabled : finset.FinSet serial_cmp
  pub max_units : ℕ
  pub alloc_last : ℕ
  pub quarantine : ℕ
  pub cooling : List ℕ

-- no units, nothing disabled or cooling, these serial numbers admitted, and these limits
abbrev pub no_active_units : List Serial → ℕ → ℕ → ℕ → ActiveState
no_active_units serials max_units alloc_last quarantine =
    record {
      admitted = finset.from_list serials;
      rows = finmap.empty;
      disabled = finset.empty;
      max_units = max_units;
      alloc_last = alloc_last;
      quarantine = quarantine;
      cooling = replicate onu_ids 0;
    }

-- what is known of a serial number; None where it isn't admitted
abbrev pub entry_of_active : ActiveState → Serial → Option UnitEntry
entry_of_active units serial =
    if finset.contains units.admitted serial
    then Some (record { disabled = finset.contains units.disabled serial; row = finmap.get units.rows serial })
    else None

-- ---- free numbers

-- a new unit may get this ONU-ID: it is at most 253, there is room for a further unit, no unit has it, and it is not
-- cooling
pub record IsFreeOnuId (units : ActiveState) (onu : ℕ) : Type 0 where
  pub low : onu < onu_ids
  pub room : finmap.len units.rows < units.max_units
  pub unused : (serial : Serial) (row : Row) → HasRow units.rows serial row → row.onu ≢ onu
  pub warm : get_or units.cooling onu 0 ≡ 0

-- a unit may get this further Alloc-ID: it is in its range, and no unit has it, held or leaving
pub record IsFreeAllocId (units : ActiveState) (alloc : ℕ) : Type 0 where
  pub above : first_alloc_id ≤ alloc
  pub below : alloc ≤ units.alloc_last
  pub unused : (serial : Serial) (row : Row) → HasRow units.rows serial row → has_alloc alloc row ≡ false

-- ---- changes

-- the unit has this row
abbrev pub with_row : ActiveState → Serial → Row → ActiveState
with_row units serial row = record units { rows = finmap.insert units.rows serial row }

-- the unit is removed, if it is active, and its ONU-ID begins to cool
abbrev pub without : ActiveState → Serial → Option Row → ActiveState
without units serial None = units
without units serial (Some row) =
    record units { rows = finmap.remove units.rows serial; cooling = set units.cooling row.onu units.quarantine }

-- the row keeps the numbers of the unit
pub record KeepsNumbers (rows : Rows) (serial : Serial) (row : Row) : Type 0 where
  pub old : Row
  pub has : HasRow rows serial old
  pub same_onu : old.onu ≡ row.onu
  pub same_allocs : (alloc : ℕ) → has_alloc alloc row ≡ has_alloc alloc old

-- ---- how they are kept; no public clause cites what follows

-- the frames that an ONU-ID has left, 0 where it is not cooling
abbrev pub left_or_zero : Option ℕ → ℕ
left_or_zero None = 0
left_or_zero (Some left) = left

-- for each ONU-ID the frames that it has left
unfoldable pub counts_of : FramesLeft → List ℕ
counts_of cooling = map (λ onu. left_or_zero (finmap.get cooling onu)) (range_with_len 0 onu_ids)

-- what a table with its pools of numbers stands for
abbrev pub active_of : Units → OnuPool → Pool → ActiveState
active_of table onus allocs =
    record {
      admitted = table.admitted;
      rows = table.rows;
      disabled = table.disabled;
      max_units = onus.pool.limit;
      alloc_last = allocs.last;
      quarantine = onus.quarantine.frames;
      cooling = counts_of onus.quarantine.cooling;
    }

-- the Alloc-IDs once a lease that may have been freed is given back
abbrev pub pool_freed : Pool → Option ℕ → Pool
pool_freed pool None = pool
pool_freed pool (Some alloc) = pool_without_lease pool alloc

-- the row has this ONU-ID
abbrev pub has_onu : ℕ → Row → Bool
has_onu onu row = onu == row.onu

-- a unit has this number
pub record IsNumberOf (rows : Rows) (has : ℕ → Row → Bool) (number : ℕ) : Type 0 where
  pub serial : Serial
  pub row : Row
  pub active : HasRow rows serial row
  pub owns : has number row ≡ true

-- the settled numbers are those that units have, each of one unit
pub record AreNumbersOf (rows : Rows) (has : ℕ → Row → Bool) (settled : ℕ → Bool) : Type 0 where
  pub each_settled : (number : ℕ) → IsNumberOf rows has number → settled number ≡ true
  pub each_owned : (number : ℕ) → settled number ≡ true → IsNumberOf rows has number
  pub alone : (number : ℕ) (one other : IsNumberOf rows has number) → one.serial ≡ other.serial

-- what every table with its pools keeps: between calls nothing is leased, and the settled numbers are those of the
-- rows; no number that is settled cools, and each that cools has frames left
pub record AreTogether (rows : Rows) (onus : OnuPool) (allocs : Pool) : Type 0 where
  pub onus_leased : (onu : ℕ) → finset.contains onus.pool.leased onu ≡ false
  pub allocs_leased : (alloc : ℕ) → finset.contains allocs.leased alloc ≡ false
  pub are_onus : AreNumbersOf rows has_onu (finset.contains onus.pool.settled)
  pub are_allocs : AreNumbersOf rows has_alloc (finset.contains allocs.settled)
  pub counted : finmap.len rows ≡ finset.len onus.pool.settled
  pub first_onu : onus.pool.first ≡ 0
  pub last_onu : onus.pool.last ≡ greatest_onu
  pub few : onus.pool.limit ≤ onu_ids
  pub first_alloc : allocs.first ≡ first_alloc_id
  pub last_alloc : allocs.last ≤ last_alloc_id
  pub warm : (onu : ℕ) → finset.contains onus.pool.settled onu ≡ true → finmap.get onus.quarantine.cooling onu ≡ None
  pub frames_left : (onu left : ℕ) → finmap.get onus.quarantine.cooling onu ≡ Some left → 1 ≤ left
