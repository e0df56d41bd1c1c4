-- Why a step refuses (this profile's own rule).
use Rattle.std.specs.Prelude.{◌≡◌, ◌↔◌, ℕ, ◌≤◌, Bool, true, false, List, [], ◌∷◌, None, Some, ◌⊎◌, Contains}
use Rattle.std.specs.FinMap.{get}
use Rattle.std.specs.FinSet.{contains}
use Rattle.gp_ploam.specs.declared.message.Serial.{Serial}
use Rattle.gp_ploam.specs.declared.message.Up.TheVariants.{SerialNumber}
use Rattle.gp_ploam.specs.Mask.{mask_value}
use Rattle.gp_ranging.specs.declared.grant.Grant.TheVariants.{Search}
use Rattle.gp_ranging.specs.Window.{WindowState}
use Rattle.gp_machine.specs.declared.event.Event.{Event}
use Rattle.gp_machine.specs.declared.event.Event.TheVariants.{Burst}
use Rattle.gp_machine.specs.declared.refusal.Refusal.{Refusal}
use Rattle.gp_machine.specs.declared.refusal.Refusal.TheVariants.{NoId, NoLicence}
use Rattle.gp_machine.specs.declared.reply.Reply.TheVariants.{Refused, Found}
use Rattle.gp_machine.specs.State.{PortState, IsFree}
use Rattle.gp_machine.specs.Changes.{StepResult}
use Rattle.gp_machine.specs.Responses.{Response, unless, has_room}
use Rattle.gp_machine.specs.Step.{Step, Hears}

-- ---- lists of causes

-- of these causes, the first that holds refuses with this
abbrev pub IsFirstCause : List (Bool × Refusal) → Refusal → Type 0
IsFirstCause [] refusal = ⊥
IsFirstCause ((holds, cause) ∷ causes) refusal =
    ((holds ≡ true) × (cause ≡ refusal)) ⊎ ((holds ≡ false) × IsFirstCause causes refusal)

-- none of these causes holds
abbrev pub NoCauseHolds : List (Bool × Refusal) → Type 0
NoCauseHolds [] = Unit {0}
NoCauseHolds ((holds, cause) ∷ causes) = (holds ≡ false) × NoCauseHolds causes

-- of each list of causes one is the first that holds, or none holds
abbrev pub HasFirstCauseOrNone : Type 0
HasFirstCauseOrNone =
    (causes : List (Bool × Refusal)) → ((refusal : Refusal) × IsFirstCause causes refusal) ⊎ NoCauseHolds causes

-- the first cause that holds refuses
abbrev pub RefusesForFirstCause : Type 0
RefusesForFirstCause =
    (refuse : Refusal → Response) (causes : List (Bool × Refusal)) (response : Response) (refusal : Refusal)
    → IsFirstCause causes refusal
    → unless refuse causes response ≡ refuse refusal

-- with no cause that holds nothing is refused
abbrev pub RefusesForNoOtherReason : Type 0
RefusesForNoOtherReason =
    (refuse : Refusal → Response) (causes : List (Bool × Refusal)) (response : Response) → NoCauseHolds causes
    → unless refuse causes response ≡ response

-- ---- a unit that asks for an ONU-ID

-- the burst asks for an ONU-ID: in a search window a serial number is heard from a unit without an ONU-ID, which is
-- admitted, not disabled, and not active yet
pub record AsksForOnuId (port : PortState) (event : Event) : Type 0 where
  pub round_trip : ℕ
  pub bytes : List ℕ
  pub burst : event ≡ Burst round_trip bytes
  pub window : WindowState
  pub opened : port.window ≡ Some window
  pub search : window.grant ≡ Search
  pub serial : Serial
  pub random : ℕ
  pub flags : ℕ
  pub heard : Hears (mask_value port.config.mask) bytes (Some (SerialNumber 255 serial random flags))
  pub admitted : Contains port.config.admitted serial
  pub enabled : contains port.disabled serial ≡ false
  pub inactive : get port.rows serial ≡ None

-- NoId comes exactly where a unit asks for an ONU-ID and none is free
abbrev pub RefusesForWantOfOnuId : Type 0
RefusesForWantOfOnuId =
    (licences : ℕ) (port : PortState) (event : Event) (outcome : StepResult)
    → Step licences port event outcome
    → (outcome.answer.reply ≡ Refused NoId) ↔ (AsksForOnuId port event × ((onu : ℕ) → IsFree port onu → ⊥))

-- NoLicence comes exactly where a unit asks for an ONU-ID, one is free, and the purse is empty
abbrev pub RefusesForWantOfLicence : Type 0
RefusesForWantOfLicence =
    (licences : ℕ) (port : PortState) (event : Event) (outcome : StepResult)
    → Step licences port event outcome
    → (outcome.answer.reply ≡ Refused NoLicence)
    ↔ (AsksForOnuId port event × ((onu : ℕ) × IsFree port onu) × (licences ≡ 0))

-- a unit that asks for an ONU-ID gets one, where one is free, a licence is in the purse, and there is room for the
-- message
abbrev pub FindsWhoAsks : Type 0
FindsWhoAsks =
    (licences : ℕ) (port : PortState) (event : Event) (outcome : StepResult)
    → Step licences port event outcome
    → AsksForOnuId port event
    → ((onu : ℕ) × IsFree port onu)
    → 1 ≤ licences
    → has_room port ≡ true
    → (onu : ℕ) × (outcome.answer.reply ≡ Found onu)
