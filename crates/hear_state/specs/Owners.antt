-- How it is kept whose each Alloc-ID is: with whom it was given to, and the tenure that the ONU-ID had then. An ONU-ID
-- that loses its Alloc-IDs, or may have lost them, begins a tenure, so no Alloc-ID has to be looked at (this profile's
-- own rule).
-- Inside: no public contract cites this.
use Rattle.std.specs.Prelude.{◌≡◌, ℕ, ◌+◌, ◌<◌, ◌≤◌, ◌==◌, ◌||◌, nat_lt, Bool, true, false, if◌then◌else◌, List, length, map, Option, None, Some, refl, slice_index_or}
use Rattle.std.specs.Coded.{Coded, code_by, coded×, coded_option, coded_ℕ}
use Rattle.hear_rules.specs.Facts.{Fact, Unknown, Nothing, Is, Sure, Yes, No, Unsure}
use Rattle.hear_rules.specs.Known.{Owner, Unclear, Free, Has}
use Rattle.hear_state.specs.declared.owners.Place.{Place}
use Rattle.hear_state.specs.declared.owners.Place.TheVariants as place
use Rattle.hear_state.specs.declared.owners.Tenure.{Tenure}
use Rattle.hear_state.specs.declared.owners.Owner as declared
use Rattle.hear_state.specs.declared.owners.Owner.TheVariants as owner
use Rattle.hear_state.specs.Facts.{fact_of}

-- an owner, to the definitions
abbrev pub owner_of : declared.Owner → Owner
owner_of owner.Unclear = Unclear
owner_of (owner.Free last) = Free (fact_of last)
owner_of (owner.Has onu last) = Has onu (fact_of last)

-- ---- an owner is stored as whose it is, if it is anybody's, and whose it was

abbrev fact_parts : Fact ℕ → Option (Option ℕ)
fact_parts Unknown = None
fact_parts Nothing = Some None
fact_parts (Is onu) = Some (Some onu)

abbrev fact_by : Option (Option ℕ) → Fact ℕ
fact_by None = Unknown
fact_by (Some None) = Nothing
fact_by (Some (Some onu)) = Is onu

abbrev owner_parts : Owner → Option (Option ℕ × Option (Option ℕ))
owner_parts Unclear = None
owner_parts (Free last) = Some (None, fact_parts last)
owner_parts (Has onu last) = Some (Some onu, fact_parts last)

abbrev whose : Option ℕ → Fact ℕ → Owner
whose None last = Free last
whose (Some onu) last = Has onu last

abbrev owner_by : Option (Option ℕ × Option (Option ℕ)) → Owner
owner_by None = Unclear
owner_by (Some parts) = whose parts.0 (fact_by parts.1)

pub owner_again : (owner : Owner) → owner_by (owner_parts owner) ≡ owner
owner_again Unclear = refl
owner_again (Free Unknown) = refl
owner_again (Free Nothing) = refl
owner_again (Free (Is onu)) = refl
owner_again (Has other Unknown) = refl
owner_again (Has other Nothing) = refl
owner_again (Has other (Is onu)) = refl

abbrev pub owner_code : Coded Owner
owner_code =
    code_by (Option (Option ℕ × Option (Option ℕ)))
    (coded_option (coded× (coded_option coded_ℕ) (coded_option (coded_option coded_ℕ)))) owner_parts owner_by owner_again

-- ---- what a place says

abbrev pub first_tenure : Tenure
first_tenure = record { now = 0; unsure = 0 }

abbrev pub tenure_at : List Tenure → ℕ → Tenure
tenure_at tenures onu = slice_index_or tenures onu first_tenure

-- an Alloc-ID that this ONU-ID had last, in this tenure
abbrev pub left_in : Tenure → ℕ → ℕ → Owner
left_in now onu tenure = if nat_lt tenure now.unsure then Unclear else Free (Is onu)

-- one that was given to it in this tenure, and was whose before
abbrev pub given_in : Tenure → ℕ → ℕ → Fact ℕ → Owner
given_in now onu tenure last = if now.now == tenure then Has onu last else left_in now onu tenure

abbrev pub owner_in : List Tenure → Place → Owner
owner_in tenures place.Unclear = Unclear
owner_in tenures place.Never = Free Nothing
owner_in tenures (place.Given onu tenure last) = given_in (tenure_at tenures onu) onu tenure (fact_of last)
owner_in tenures (place.Back onu tenure) = left_in (tenure_at tenures onu) onu tenure

abbrev pub owners_of : List Tenure → List Place → List Owner
owners_of tenures places = map (owner_in tenures) places

-- ---- what is so of each

abbrev pub IsPast : List Tenure → Place → Type 0
IsPast tenures place.Unclear = Unit {0}
IsPast tenures place.Never = Unit {0}
IsPast tenures (place.Given onu tenure last) =
    (onu < 256) × (let now = tenure_at tenures onu in tenure ≤ now.now)
IsPast tenures (place.Back onu tenure) = (onu < 256) × (let now = tenure_at tenures onu in tenure ≤ now.now)

pub record ArePast (tenures : List Tenure) (places : List Place) : Type 0 where
  pub long : length places ≡ 4096
  pub each : (alloc : ℕ) → IsPast tenures (slice_index_or places alloc place.Unclear)
  pub sure : (onu : ℕ) → (let now = tenure_at tenures onu in now.unsure ≤ now.now)

-- ---- what becomes of them

-- one ONU-ID loses its Alloc-IDs, or may have lost them
abbrev pub lost_only : ℕ → Sure → ℕ → Sure
lost_only onu lost other = if other == onu then lost else No

abbrev pub lost_if : Bool → Sure
lost_if true = Unsure
lost_if false = Yes

-- the tenures once one begins
abbrev pub next_tenure : Bool → Tenure → Tenure
next_tenure unsure tenure =
    record { now = tenure.now + 1; unsure = if unsure then tenure.now + 1 else tenure.unsure }

abbrev pub settled_in : Tenure → ℕ → Bool → ℕ → Place
settled_in now onu unsure tenure =
    if unsure || nat_lt tenure now.unsure then place.Unclear else place.Back onu 0

-- a place where its ONU-ID begins its tenures anew
abbrev pub settled : Tenure → ℕ → Bool → Place → Place
settled now onu unsure place.Unclear = place.Unclear
settled now onu unsure place.Never = place.Never
settled now onu unsure (place.Given other tenure last) =
    if other == onu then settled_in now onu unsure tenure else place.Given other tenure last
settled now onu unsure (place.Back other tenure) =
    if other == onu then settled_in now onu unsure tenure else place.Back other tenure

-- a place once each ONU-ID lost its Alloc-IDs
abbrev pub lost_place : Place → Place
lost_place place.Unclear = place.Unclear
lost_place place.Never = place.Never
lost_place (place.Given onu tenure last) = place.Back onu tenure
lost_place (place.Back onu tenure) = place.Back onu tenure
