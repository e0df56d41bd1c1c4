-- Why what is heard can't be noted (this profile's own rule): a serial number that is new wants memory, and 65,536 are
-- followed at most; a unit's asks are counted up to 2^64 - 1.
use Rattle.std.specs.Prelude.{◌≡◌, ℕ, ◌-◌, ◌^◌, ◌==◌, ◌||◌, Bool, true, false, Option, None, Some, if◌then◌else◌}
use Rattle.std.specs.FinMap.{get}
use Rattle.gp_ploam.specs.declared.message.Serial.{Serial}
use Rattle.gp_ploam.specs.declared.message.Down.{Down}
use Rattle.gp_ploam.specs.declared.message.Down.TheVariants.{AssignOnu, DisableSerial, EnableSerial}
use Rattle.gp_ploam.specs.declared.message.Up.{Up}
use Rattle.gp_ploam.specs.declared.message.Up.TheVariants.{SerialNumber}
use Rattle.gp_ploam.specs.OnuIds.{broadcast_onu}
use Rattle.gp_observer.specs.Observer.{is_unit_number}
use Rattle.gp_observer.specs.Heard.{Heard, HeardDown, HeardUp, HeardGrant}
use Rattle.hear_state.specs.declared.fault.HearFault.{HearFault}
use Rattle.hear_state.specs.declared.fault.HearFault.TheVariants.{OutOfMemory, Full}
use Rattle.hear_state.specs.Index.{is_full}
use Rattle.hear_state.specs.Kept.{Kept, followed_at}

-- the serial number that a message down has followed, if it has one
abbrev pub followed_by : Down → Option Serial
followed_by (AssignOnu onu serial) = if is_unit_number onu then Some serial else None
followed_by (DisableSerial serial) = Some serial
followed_by (EnableSerial serial) = Some serial
followed_by _ = None

-- the unit that asks with 255
abbrev pub asking : Up → Option Serial
asking (SerialNumber onu serial random flags) = if onu == broadcast_onu then Some serial else None
asking _ = None

abbrev pub is_most : Option ℕ → Bool
is_most None = false
is_most (Some asks) = asks == 2 ^ 64 - 1

-- it is new and there is no room for it
abbrev pub has_no_room : Kept → Option Serial → Bool
has_no_room kept None = false
has_no_room kept (Some serial) = is_full kept.followed serial

-- and for one that asks: its asks can't be counted further
abbrev pub cannot_ask : Kept → Option Serial → Bool
cannot_ask kept None = false
cannot_ask kept (Some serial) =
    let followed = followed_at kept serial in is_most followed.asks || is_full kept.followed serial

-- what is heard can't be noted, whatever memory there is
abbrev pub is_too_much : Kept → Heard → Bool
is_too_much kept (HeardDown None) = false
is_too_much kept (HeardDown (Some message)) = has_no_room kept (followed_by message)
is_too_much kept (HeardUp None delay) = false
is_too_much kept (HeardUp (Some message) delay) = cannot_ask kept (asking message)
is_too_much kept (HeardGrant grant) = false

-- the serial number that is followed once this is heard
abbrev pub followed_on : Heard → Option Serial
followed_on (HeardDown None) = None
followed_on (HeardDown (Some message)) = followed_by message
followed_on (HeardUp None delay) = None
followed_on (HeardUp (Some message) delay) = asking message
followed_on (HeardGrant grant) = None

-- there is one, and it is new
abbrev pub IsNew : Kept → Option Serial → Type 0
IsNew kept None = ⊥
IsNew kept (Some serial) = get kept.followed serial ≡ None

-- why nothing is noted: it is too much, or a serial number is new, and there is no memory for it
abbrev pub FailsBy : Kept → Option Serial → Bool → HearFault → Type 0
FailsBy kept followed too_much OutOfMemory = IsNew kept followed × (too_much ≡ false)
FailsBy kept followed too_much Full = too_much ≡ true

abbrev pub FailsOn : Kept → Heard → HearFault → Type 0
FailsOn kept heard fault = FailsBy kept (followed_on heard) (is_too_much kept heard) fault
