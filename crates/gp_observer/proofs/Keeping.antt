-- What the messages of a run keep, as relations on what is observed.
use Rattle.std.specs.Prelude.{◌≡◌, ◌≢◌, ℕ, ◌≤◌, Bool, true, false, List, [], ◌∷◌, None, Some}
use Rattle.std.specs.FinMap.{get}
use Rattle.std.specs.FinSet as finset
use Rattle.gp_ploam.specs.declared.message.Serial.{Serial}
use Rattle.gp_ploam.specs.declared.message.Down.{Down}
use Rattle.gp_ploam.specs.declared.message.Down.TheVariants.{AssignOnu, RangingTime, Deactivate, AssignAlloc, NoMessage, Popup, Other}
use Rattle.gp_ploam.specs.OnuIds.{last_onu}
use Rattle.gp_pools.specs.Limits.{first_alloc_id}
use Rattle.gp_observer.specs.Observer.{Observed, observed_after}

-- somebody holds the ONU-ID
abbrev pub IsHeld : Observed → ℕ → Type 0
IsHeld seen onu = (serial : Serial) × (get seen.holder onu ≡ Some serial)

-- and its delay is still to be told
abbrev pub IsUnranged : Observed → ℕ → Type 0
IsUnranged seen onu = IsHeld seen onu × (get seen.delay onu ≡ None)

-- or it was told
abbrev pub IsRanged : Observed → ℕ → Type 0
IsRanged seen onu = IsHeld seen onu × ((eqd : ℕ) × (get seen.delay onu ≡ Some eqd))

-- an ONU-ID may be assigned: it is 0 to 253, its unit is not disabled, no other unit holds it, and its unit no other
pub record MayAssign (seen : Observed) (onu : ℕ) (serial : Serial) : Type 0 where
  pub low : onu ≤ last_onu
  pub enabled : finset.contains seen.disabled serial ≡ false
  pub unheld : (other : Serial) → get seen.holder onu ≡ Some other → other ≡ serial
  pub one : (other : ℕ) → get seen.holder other ≡ Some serial → other ≡ onu

-- a further Alloc-ID, 256 or above, may be given to an ONU-ID that was ranged, where no other has it, and taken from
-- one that has it
abbrev pub MayAssignAlloc : Observed → ℕ → ℕ → Bool → Type 0
MayAssignAlloc seen onu alloc true =
    IsRanged seen onu × (first_alloc_id ≤ alloc) × ((other : ℕ) → get seen.alloc alloc ≡ Some other → other ≡ onu)
MayAssignAlloc seen onu alloc false = IsRanged seen onu × (get seen.alloc alloc ≡ Some onu)

-- the message breaks no rule
abbrev pub KeepsRules : Observed → Down → Type 0
KeepsRules seen (AssignOnu onu serial) = MayAssign seen onu serial
KeepsRules seen (RangingTime onu eqd) = IsUnranged seen onu
KeepsRules seen (Deactivate onu) = IsHeld seen onu × (onu ≤ last_onu)
KeepsRules seen (AssignAlloc onu alloc keep) = MayAssignAlloc seen onu alloc keep
KeepsRules seen (Popup onu) = onu ≢ 255 → IsRanged seen onu
KeepsRules seen NoMessage = ⊥
KeepsRules seen (Other id octet1 body) = ⊥
KeepsRules seen _ = Unit {0}

-- none of the messages breaks a rule, each as it is seen after those before it
abbrev pub AllKeepRules : Observed → List Down → Type 0
AllKeepRules seen [] = Unit {0}
AllKeepRules seen (message ∷ messages) = KeepsRules seen message × AllKeepRules (observed_after seen message) messages
