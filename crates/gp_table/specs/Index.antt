-- An index over the admitted serial numbers, kept in their order (this profile's own rule).
-- Inside: no public contract cites this.
use Rattle.std.specs.Prelude.{◌≡◌, ℕ, ◌^◌, ◌<◌, ◌≤◌, Bool, false, List, length, map, Option, None, Some, is_some, slice_index_or, if◌then◌else◌}
use Rattle.std.specs.FinMap.{FinMap, from_entries, get, insert, keys, retain_keys}
use Rattle.std.specs.FinSet as set
use Rattle.gp_ploam.specs.declared.message.Serial.{Serial}
use Rattle.gp_ploam.specs.Serials.{serial_cmp, is_among, serial_of}
use Rattle.gp_table.specs.declared.admission_index.AdmittedSerial.{AdmittedSerial}
use Rattle.gp_table.specs.declared.admission_index.IndexPlace.{IndexPlace}
use Rattle.gp_table.specs.Values.{map_values}

-- from each admitted serial number to what the index has for it
abbrev pub Admissions : Type 0
Admissions = FinMap serial_cmp AdmittedSerial

-- ---- what the index says

-- the key of the unit's record, if the serial number is admitted and its unit active
abbrev pub key_in : Option AdmittedSerial → Option ℕ
key_in None = None
key_in (Some admission) = admission.key

-- whether the serial number is admitted and disabled
abbrev pub disabled_in : Option AdmittedSerial → Bool
disabled_in None = false
disabled_in (Some admission) = admission.disabled

-- the key, or 0 where there is none
abbrev pub key_or_zero : Option ℕ → ℕ
key_or_zero None = 0
key_or_zero (Some key) = key

-- from the serial number of each active unit to the key of its record
unfoldable pub keys_of : Admissions → FinMap serial_cmp ℕ
keys_of index =
    map_values (λ admission. key_or_zero admission.key)
    (retain_keys index (λ serial. is_some (key_in (get index serial))))

-- the admitted serial numbers
unfoldable pub admitted_of : Admissions → set.FinSet serial_cmp
admitted_of index = set.from_list (keys index)

-- the disabled serial numbers
unfoldable pub disabled_of : Admissions → set.FinSet serial_cmp
disabled_of index = set.retain (set.from_list (keys index)) (λ serial. disabled_in (get index serial))

-- ---- what becomes of it

-- a serial number whose unit isn't active, and which isn't disabled
abbrev pub fresh_admission : AdmittedSerial
fresh_admission = record { key = None; disabled = false }

-- what the index has for a serial number at first
abbrev pub fresh_if : Bool → Option AdmittedSerial
fresh_if admitted = if admitted then Some fresh_admission else None

-- the index has just these serial numbers, and nothing more is known of them
pub record IsFresh (serials : List Serial) (index : Admissions) : Type 0 where
  pub each : (serial : Serial) → get index serial ≡ fresh_if (is_among serial serials)

-- the index with a serial number more, where it isn't admitted yet
abbrev pub admitting : Admissions → Serial → Admissions
admitting index serial = if is_some (get index serial) then index else insert index serial fresh_admission

abbrev pub changed_at : Admissions → Serial → (AdmittedSerial → AdmittedSerial) → Option AdmittedSerial → Admissions
changed_at index serial change None = index
changed_at index serial change (Some admission) = insert index serial (change admission)

-- the index with what it has for this serial number changed so, where it is admitted
abbrev pub changed : Admissions → Serial → (AdmittedSerial → AdmittedSerial) → Admissions
changed index serial change = changed_at index serial change (get index serial)

abbrev pub with_key : Option ℕ → AdmittedSerial → AdmittedSerial
with_key key admission = record admission { key = key }

abbrev pub with_disabled : Bool → AdmittedSerial → AdmittedSerial
with_disabled disabled admission = record admission { disabled = disabled }

abbrev pub enabled : AdmittedSerial → AdmittedSerial
enabled admission = record admission { disabled = false }

-- ---- how it is kept

-- a serial number and what the index has for it
abbrev pub entry_of : IndexPlace → Serial × AdmittedSerial
entry_of place = (serial_of place.rank, place.admission)

-- from the serial number of each place to what the place has
abbrev pub admissions_of : List IndexPlace → Admissions
admissions_of places = from_entries (map entry_of places)

abbrev pub enabled_place : IndexPlace → IndexPlace
enabled_place place = record place { admission = enabled place.admission }

-- a place that says nothing
abbrev pub blank_place : IndexPlace
blank_place = record { rank = 0; admission = fresh_admission }

-- the number at place i
abbrev pub rank_at : List IndexPlace → ℕ → ℕ
rank_at places i = let place = slice_index_or places i blank_place in place.rank

-- the numbers rise, so none comes twice, and each makes eight octets
pub record IsRising (places : List IndexPlace) : Type 0 where
  pub rising : (i j : ℕ) → i < j → j < length places → rank_at places i < rank_at places j
  pub fits : (i : ℕ) → i < length places → rank_at places i < 2 ^ 64

-- this number is at place i
pub record IsPlaceOf (places : List IndexPlace) (rank i : ℕ) : Type 0 where
  pub within : i < length places
  pub here : rank_at places i ≡ rank

-- this number is at no place, and would go to place i: less ones before it, and greater ones from it on
pub record IsGapFor (places : List IndexPlace) (rank i : ℕ) : Type 0 where
  pub within : i ≤ length places
  pub before : (j : ℕ) → j < i → rank_at places j < rank
  pub after : (j : ℕ) → i ≤ j → j < length places → rank < rank_at places j
