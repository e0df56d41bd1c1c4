-- How it is kept which ONU-ID each Alloc-ID belongs to: with the age that the ONU-ID had then. An ONU-ID that is given
-- up is one older, so no Alloc-ID has to be looked at (this profile's own rule).
-- Inside: no public contract cites this.
use Rattle.std.specs.Prelude.{◌≡◌, ℕ, ◌<◌, ◌≤◌, ◌==◌, if◌then◌else◌, List, length, map, Option, None, Some, slice_index, slice_index_or}
use Rattle.std.specs.Ordering.{nat_cmp}
use Rattle.std.specs.FinMap.{FinMap}
use Rattle.gp_watch.specs.declared.owners.Owner.{Owner}
use Rattle.gp_watch.specs.Places.{map_of}

-- whom the Alloc-ID of a place belongs to: nobody where the ONU-ID is older now
abbrev pub owner_at : List ℕ → Option Owner → Option ℕ
owner_at ages None = None
owner_at ages (Some owner) = if slice_index ages owner.onu == owner.age then Some owner.onu else None

-- from each Alloc-ID that belongs to an ONU-ID to the ONU-ID
abbrev pub owners_of : List ℕ → List (Option Owner) → FinMap nat_cmp ℕ
owners_of ages places = map_of (map (owner_at ages) places)

-- a place is of one of 256 ONU-IDs, and of none that was older then
abbrev pub IsPast : List ℕ → Option Owner → Type 0
IsPast ages None = Unit {0}
IsPast ages (Some owner) = (owner.onu < 256) × (owner.age ≤ slice_index ages owner.onu)

pub record ArePast (ages : List ℕ) (places : List (Option Owner)) : Type 0 where
  pub long : length places ≡ 4096
  pub each : (place : ℕ) → IsPast ages (slice_index_or places place None)

-- a place, where what it has isn't this ONU-ID
abbrev pub left_at : ℕ → Option Owner → Option Owner
left_at onu None = None
left_at onu (Some owner) = if owner.onu == onu then None else Some owner
