-- What an observer of the messages of a port knows of its units (G.984.3, clauses 9 and 10; that the messages tell the
-- unit table is this profile's own rule).
use Rattle.std.specs.Prelude.{ℕ, ◌==◌, ◌&&◌, ◌||◌, nat_le, Bool, true, false, not, if◌then◌else◌, List, [], ◌∷◌, Option, None, Some}
use Rattle.std.specs.Ordering.{nat_cmp}
use Rattle.std.specs.FinMap.{FinMap, get, insert, remove, retain_keys}
use Rattle.std.specs.FinMap as finmap
use Rattle.std.specs.FinSet.{FinSet}
use Rattle.std.specs.FinSet as finset
use Rattle.gp_ploam.specs.declared.message.Serial.{Serial}
use Rattle.gp_ploam.specs.declared.message.Down.{Down}
use Rattle.gp_ploam.specs.declared.message.Down.TheVariants.{AssignOnu, RangingTime, Deactivate, DisableSerial, EnableSerial, EnableAll, AssignAlloc, Popup}
use Rattle.gp_ploam.specs.OnuIds.{last_onu, broadcast_onu}
use Rattle.gp_ploam.specs.Serials.{serial_cmp, same_serial}

-- ---- what is known

-- who holds each ONU-ID, the disabled serial numbers, which ONU-ID each further Alloc-ID belongs to, and the
-- equalization delay that was told with each ONU-ID
pub record Observed : Type 0 where
  pub holder : FinMap nat_cmp Serial
  pub disabled : FinSet serial_cmp
  pub alloc : FinMap nat_cmp ℕ
  pub delay : FinMap nat_cmp ℕ

-- before the first message
abbrev pub nothing_observed : Observed
nothing_observed =
    record { holder = finmap.empty; disabled = finset.empty; alloc = finmap.empty; delay = finmap.empty }

-- there is a value, and it passes the test
abbrev pub some_passes : {X : Type 0} → (X → Bool) → Option X → Bool
some_passes test None = false
some_passes test (Some value) = test value

-- the ONU-ID belongs to this serial number
abbrev pub is_of : Observed → Serial → ℕ → Bool
is_of seen serial onu = some_passes (λ holder. same_serial serial holder) (get seen.holder onu)

-- ---- what a message changes

-- a unit may have this ONU-ID: it is 0 to 253
abbrev pub is_unit_number : ℕ → Bool
is_unit_number onu = nat_le onu last_onu

-- which ONU-IDs a message takes from the units that hold them: Assign_ONU-ID the one that it gives, and what its unit
-- held; Deactivate_ONU-ID its own, or all; Disable_Serial_Number what its unit holds
abbrev pub drops : Observed → Down → ℕ → Bool
drops seen (AssignOnu onu serial) other = is_unit_number onu && (other == onu || is_of seen serial other)
drops seen (Deactivate onu) other = onu == broadcast_onu || other == onu
drops seen (DisableSerial serial) other = is_of seen serial other
drops seen _ other = false

-- the ONU-IDs that pass the test are given up, with their Alloc-IDs and delays
abbrev pub units_without : Observed → (ℕ → Bool) → Observed
units_without seen gone =
    record seen {
      holder = retain_keys seen.holder (λ onu. not (gone onu));
      alloc = retain_keys seen.alloc (λ alloc. not (some_passes gone (get seen.alloc alloc)));
      delay = retain_keys seen.delay (λ onu. not (gone onu));
    }

-- the ONU-ID belongs to this serial number, but 254 and 255 to nobody
abbrev pub with_holder : Observed → ℕ → Serial → Observed
with_holder seen onu serial =
    if is_unit_number onu then record seen { holder = insert seen.holder onu serial } else seen

-- the further Alloc-ID belongs to this ONU-ID, or to none
abbrev pub with_alloc : Observed → ℕ → ℕ → Bool → Observed
with_alloc seen onu alloc true = record seen { alloc = insert seen.alloc alloc onu }
with_alloc seen onu alloc false = record seen { alloc = remove seen.alloc alloc }

-- an ONU-ID has to range anew, or all do
abbrev pub popped_up : Observed → Bool → Observed
popped_up seen true = record seen { delay = finmap.empty }
popped_up seen false = seen

-- what is known after a message
abbrev pub observed_after : Observed → Down → Observed
observed_after seen (AssignOnu onu serial) =
    with_holder (units_without seen (drops seen (AssignOnu onu serial))) onu serial
observed_after seen (RangingTime onu eqd) = record seen { delay = insert seen.delay onu eqd }
observed_after seen (Deactivate onu) = units_without seen (drops seen (Deactivate onu))
observed_after seen (DisableSerial serial) =
    record (units_without seen (drops seen (DisableSerial serial)))
    { disabled = finset.insert seen.disabled serial }
observed_after seen (EnableSerial serial) = record seen { disabled = finset.remove seen.disabled serial }
observed_after seen EnableAll = record seen { disabled = finset.empty }
observed_after seen (AssignAlloc onu alloc keep) = with_alloc seen onu alloc keep
observed_after seen (Popup onu) = popped_up seen (onu == broadcast_onu)
observed_after seen _ = seen

-- what is known after messages, one after another
abbrev pub observed_after_all : Observed → List Down → Observed
observed_after_all seen [] = seen
observed_after_all seen (message ∷ messages) = observed_after_all (observed_after seen message) messages
