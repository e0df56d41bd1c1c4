-- Which units each grant asks, by their places (this profile's own rule).
-- Inside: no public contract cites this.
use Rattle.std.specs.Prelude.{◌≡◌, ℕ, ◌==◌, Bool, false, true, List, ◌<◌, length, slice_index_or, slice_set}
use Rattle.std.specs.FinSet.{FinSet, contains, empty, insert, remove}
use Rattle.std.specs.Ordering.{nat_cmp}
use Rattle.gp_ranging.specs.declared.grant.Grant.{Grant}
use Rattle.gp_ranging.specs.declared.grant.Grant.TheVariants as grant
use Rattle.gp_onu.specs.declared.stage.Stage.{Stage}
use Rattle.gp_onu.specs.declared.stage.Stage.TheVariants.{SerialNumber, Ranging, Operation, Popup}
use Rattle.gp_fibre.specs.declared.asked_by.AskedBy.{AskedBy}
use Rattle.gp_fibre.specs.declared.asked_by.AskedBy.TheVariants.{Nothing, Search, OnuId}

-- which grants ask a unit in this state
abbrev pub asked_by_of : Stage → AskedBy
asked_by_of (SerialNumber frames) = Search
asked_by_of (Ranging onu frames) = OnuId onu
asked_by_of (Operation onu eqd owed) = OnuId onu
asked_by_of (Popup onu eqd owed frames) = OnuId onu
asked_by_of _ = Nothing

-- the grant is one of those
abbrev pub asks : AskedBy → Grant → Bool
asks Nothing asked = false
asks Search grant.Search = true
asks Search _ = false
asks (OnuId own) grant.Search = false
asks (OnuId own) (grant.Range onu) = onu == own
asks (OnuId own) (grant.Poll onu) = onu == own

-- the places of the units that serial number requests ask, and of those that have each ONU-ID
pub record AskedPlaces : Type 0 where
  pub searched : FinSet nat_cmp
  pub by_onu_id : List (FinSet nat_cmp)

-- the places that a grant asks
abbrev pub places_asked : AskedPlaces → Grant → FinSet nat_cmp
places_asked places grant.Search = places.searched
places_asked places (grant.Range onu) = slice_index_or places.by_onu_id onu empty
places_asked places (grant.Poll onu) = slice_index_or places.by_onu_id onu empty

-- this place is one of them
abbrev pub is_in_set : AskedPlaces → Grant → ℕ → Bool
is_in_set places asked place = contains (places_asked places asked) place

-- no grant asks any of the first so many places
abbrev pub AsksNobody : ℕ → AskedPlaces → Type 0
AsksNobody units places = (asked : Grant) (place : ℕ) → place < units → is_in_set places asked place ≡ false

-- another set in place of the one that these grants ask
abbrev pub updated : AskedPlaces → AskedBy → (FinSet nat_cmp → FinSet nat_cmp) → AskedPlaces
updated places Nothing change = places
updated places Search change = record places { searched = change places.searched }
updated places (OnuId onu) change =
    record places { by_onu_id = slice_set places.by_onu_id onu (change (slice_index_or places.by_onu_id onu empty)) }

-- these grants, if any, have a set
abbrev pub HasSet : AskedPlaces → AskedBy → Type 0
HasSet places (OnuId onu) = onu < length places.by_onu_id
HasSet places _ = Unit {0}

-- with this place in the set that these grants ask
abbrev pub with_place : AskedPlaces → AskedBy → ℕ → AskedPlaces
with_place places kind place = updated places kind (λ s. insert s place)

-- without it
abbrev pub without_place : AskedPlaces → AskedBy → ℕ → AskedPlaces
without_place places kind place = updated places kind (λ s. remove s place)
