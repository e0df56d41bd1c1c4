-- An index over the serial numbers that are followed, kept in their order (this profile's own rule).
-- Inside: no public contract cites this.
use Rattle.std.specs.Prelude.{◌≡◌, ℕ, ◌^◌, ◌<◌, ◌≤◌, Bool, false, List, length, map, Option, None, Some, slice_index_or}
use Rattle.std.specs.FinMap.{FinMap, from_entries, get, insert, keys}
use Rattle.std.specs.FinSet as set
use Rattle.gp_ploam.specs.declared.message.Serial.{Serial}
use Rattle.gp_ploam.specs.Serials.{serial_cmp, serial_of}
use Rattle.gp_table.specs.Values.{map_values}
use Rattle.gp_watch.specs.declared.index.Followed.{Followed}
use Rattle.gp_watch.specs.declared.index.IndexPlace.{IndexPlace}

-- from each serial number that is followed to what the index has for it
abbrev pub Followeds : Type 0
Followeds = FinMap serial_cmp Followed

-- ---- what the index says

-- the ONU-ID that a serial number holds, if it is followed and holds one
abbrev pub onu_in : Option Followed → Option ℕ
onu_in None = None
onu_in (Some followed) = followed.onu

-- whether a serial number is followed and disabled
abbrev pub disabled_in : Option Followed → Bool
disabled_in None = false
disabled_in (Some followed) = followed.disabled

-- how many asks each has left
abbrev pub asks_of : Followeds → FinMap serial_cmp ℕ
asks_of index = map_values (λ followed. followed.asks) index

-- the disabled serial numbers
unfoldable pub disabled_of : Followeds → set.FinSet serial_cmp
disabled_of index = set.retain (set.from_list (keys index)) (λ serial. disabled_in (get index serial))

-- ---- what becomes of it

-- a serial number that has asked so often, holds no ONU-ID and isn't disabled
abbrev pub newly_followed : ℕ → Followed
newly_followed asks = record { asks = asks; onu = None; disabled = false }

abbrev pub changed_at : Followeds → Serial → (Followed → Followed) → Option Followed → Followeds
changed_at index serial change None = index
changed_at index serial change (Some followed) = insert index serial (change followed)

-- the index with what it has for this serial number changed so, where it is followed
abbrev pub changed : Followeds → Serial → (Followed → Followed) → Followeds
changed index serial change = changed_at index serial change (get index serial)

abbrev pub with_onu : Option ℕ → Followed → Followed
with_onu onu followed = record followed { onu = onu }

abbrev pub with_asks : ℕ → Followed → Followed
with_asks asks followed = record followed { asks = asks }

abbrev pub with_disabled : Bool → Followed → Followed
with_disabled disabled followed = record followed { disabled = disabled }

abbrev pub enabled : Followed → Followed
enabled followed = record followed { disabled = false }

-- the unit that held an ONU-ID, if one did, holds none
abbrev pub released : Followeds → Option Serial → Followeds
released index None = index
released index (Some serial) = changed index serial (with_onu None)

-- ---- how it is kept

-- a serial number and what the index has for it
abbrev pub entry_of : IndexPlace → Serial × Followed
entry_of place = (serial_of place.rank, place.followed)

-- from the serial number of each place to what the place has
abbrev pub index_of : List IndexPlace → Followeds
index_of places = from_entries (map entry_of places)

abbrev pub enabled_place : IndexPlace → IndexPlace
enabled_place place = record place { followed = enabled place.followed }

-- a place that says nothing
abbrev pub blank_place : IndexPlace
blank_place = record { rank = 0; followed = newly_followed 0 }

-- the number at place i
abbrev pub rank_at : List IndexPlace → ℕ → ℕ
rank_at places i = let place = slice_index_or places i blank_place in place.rank

-- the numbers rise, so none comes twice, and each makes eight octets
pub record IsRising (places : List IndexPlace) : Type 0 where
  pub rising : (i j : ℕ) → i < j → j < length places → rank_at places i < rank_at places j
  pub fits : (i : ℕ) → i < length places → rank_at places i < 2 ^ 64

-- this number is at place i
pub record IsPlaceOf (places : List IndexPlace) (rank i : ℕ) : Type 0 where
  pub within : i < length places
  pub here : rank_at places i ≡ rank

-- this number is at no place, and would go to place i: less ones before it, and greater ones from it on
pub record IsGapFor (places : List IndexPlace) (rank i : ℕ) : Type 0 where
  pub within : i ≤ length places
  pub before : (j : ℕ) → j < i → rank_at places j < rank
  pub after : (j : ℕ) → i ≤ j → j < length places → rank < rank_at places j
