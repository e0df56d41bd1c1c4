-- An index over the serial numbers that are followed, kept in their order (this profile's own rule).
use Rattle.std.specs.Prelude.{◌≡◌, ℕ, ◌^◌, ◌<◌, ◌≤◌, ◌&&◌, nat_le, Bool, true, false, List, length, map, Option, None, Some, is_none, slice_index_or}
use Rattle.std.specs.FinMap.{FinMap, from_entries, get, insert, len}
use Rattle.gp_ploam.specs.declared.message.Serial.{Serial}
use Rattle.gp_ploam.specs.Serials.{serial_cmp, serial_of}
use Rattle.hear_state.specs.declared.facts.Fact.TheVariants as fact
use Rattle.hear_state.specs.declared.facts.Sure.{Sure}
use Rattle.hear_state.specs.declared.facts.Sure.TheVariants as sure
use Rattle.hear_state.specs.declared.fault.HearFault.{HearFault}
use Rattle.hear_state.specs.declared.fault.HearFault.TheVariants.{OutOfMemory, Full}
use Rattle.hear_state.specs.declared.index.Followed.{Followed}
use Rattle.hear_state.specs.declared.index.IndexPlace.{IndexPlace}

-- from each serial number that is followed to what is known of it
abbrev pub Followeds : Type 0
Followeds = FinMap serial_cmp Followed

-- ---- what becomes of it

abbrev pub changed_at : Followeds → Serial → (Followed → Followed) → Option Followed → Followeds
changed_at index serial change None = index
changed_at index serial change (Some followed) = insert index serial (change followed)

-- the index with what it has for this serial number changed so, where it is followed
abbrev pub changed : Followeds → Serial → (Followed → Followed) → Followeds
changed index serial change = changed_at index serial change (get index serial)

-- one that holds no ONU-ID
abbrev pub released : Followed → Followed
released followed = record followed { holds = fact.Nothing }

-- one that isn't disabled
abbrev pub enabled : Followed → Followed
enabled followed = record followed { disabled = sure.No }

-- one that answered with an ONU-ID: if it asked before, it didn't restart
abbrev pub asked_answered : Sure → Sure
asked_answered sure.Yes = sure.No
asked_answered sure.No = sure.No
asked_answered sure.Unsure = sure.Unsure

abbrev pub answered : Followed → Followed
answered followed = record followed { asked = asked_answered followed.asked }

-- ---- why a serial number can't be followed

-- it is new, and 65,536 are followed
abbrev pub is_full : Followeds → Serial → Bool
is_full index serial = is_none (get index serial) && nat_le 65536 (len index)

-- it is new: there is no memory for it, or no room
abbrev pub FailsFor : Followeds → Serial → HearFault → Type 0
FailsFor index serial OutOfMemory = (get index serial ≡ None) × (is_full index serial ≡ false)
FailsFor index serial Full = is_full index serial ≡ true

-- ---- how it is kept

-- a serial number and what the index has for it
abbrev pub entry_of : IndexPlace → Serial × Followed
entry_of place = (serial_of place.rank, place.followed)

-- from the serial number of each place to what the place has
abbrev pub index_of : List IndexPlace → Followeds
index_of places = from_entries (map entry_of places)

abbrev pub enabled_place : IndexPlace → IndexPlace
enabled_place place = record place { followed = enabled place.followed }

abbrev pub released_place : IndexPlace → IndexPlace
released_place place = record place { followed = released place.followed }

-- one of which nothing is known
abbrev pub unknown_serial : Followed
unknown_serial =
    record { holds = fact.Unknown; disabled = sure.Unsure; asks = None; asked = sure.Unsure }

-- a place that says nothing
abbrev pub blank_place : IndexPlace
blank_place = record { rank = 0; followed = unknown_serial }

-- the number at place i
abbrev pub rank_at : List IndexPlace → ℕ → ℕ
rank_at places i = let place = slice_index_or places i blank_place in place.rank

-- the numbers rise, so none comes twice, and each makes eight octets
pub record IsRising (places : List IndexPlace) : Type 0 where
  pub rising : (i j : ℕ) → i < j → j < length places → rank_at places i < rank_at places j
  pub fits : (i : ℕ) → i < length places → rank_at places i < 2 ^ 64

-- this number is at place i
pub record IsPlaceOf (places : List IndexPlace) (rank i : ℕ) : Type 0 where
  pub within : i < length places
  pub here : rank_at places i ≡ rank

-- this number is at no place, and would go to place i: less ones before it, and greater ones from it on
pub record IsGapFor (places : List IndexPlace) (rank i : ℕ) : Type 0 where
  pub within : i ≤ length places
  pub before : (j : ℕ) → j < i → rank_at places j < rank
  pub after : (j : ℕ) → i ≤ j → j < length places → rank < rank_at places j
