-- What is heard, and what it is judged by, as the code has them (this profile's own rule).
use Rattle.std.specs.Prelude.{◌≡◌, ◌==◌, ◌-◌, ◌^◌, ◌&&◌, not, if◌then◌else◌, true, Option, None, Some}
use Rattle.std.specs.FinMap.{get}
use Rattle.gp_ploam.specs.declared.message.Serial.{Serial}
use Rattle.gp_ploam.specs.declared.message.Down.{Down}
use Rattle.gp_ploam.specs.declared.message.Down.TheVariants.{AssignOnu, DisableSerial}
use Rattle.gp_ploam.specs.declared.message.Up.{Up}
use Rattle.gp_ploam.specs.declared.message.Up.TheVariants.{SerialNumber}
use Rattle.gp_ploam.specs.OnuIds.{broadcast_onu}
use Rattle.gp_ploam.specs.Down.{IsFittingDown}
use Rattle.gp_observer.specs.Heard as observer
use Rattle.gp_observer.specs.Rules as rules
use Rattle.gp_observer.specs.Watch.{Watch, can_follow, is_new}
use Rattle.gp_watch.specs.declared.fault.WatchFault.{WatchFault}
use Rattle.gp_watch.specs.declared.fault.WatchFault.TheVariants.{OutOfMemory, Full}
use Rattle.gp_watch.specs.declared.heard.Heard.{Heard}
use Rattle.gp_watch.specs.declared.heard.Heard.TheVariants as heard
use Rattle.gp_watch.specs.declared.heard.Settings.{Settings}

-- what is heard, to the definitions
abbrev pub heard_of : Heard → observer.Heard
heard_of (heard.Down message) = observer.HeardDown message
heard_of (heard.Up message delay) = observer.HeardUp message delay
heard_of (heard.Grant grant) = observer.HeardGrant grant

-- the settings, to the definitions
abbrev pub settings_of : Settings → rules.Settings
settings_of settings = record { teqd = settings.teqd; drift = settings.drift }

-- a message down has a code of its own
abbrev pub IsFitting : Heard → Type 0
IsFitting (heard.Down (Some message)) = IsFittingDown message
IsFitting _ = Unit {0}

-- ---- what can't be noted

-- the serial number that a message down has followed, if it has one
abbrev pub followed_by : Down → Option Serial
followed_by (AssignOnu onu serial) = Some serial
followed_by (DisableSerial serial) = Some serial
followed_by _ = None

abbrev pub followed_down : Option Down → Option Serial
followed_down None = None
followed_down (Some message) = followed_by message

-- a unit that asks has its own followed
abbrev pub followed_up : Option Up → Option Serial
followed_up (Some (SerialNumber onu serial random flags)) = if onu == broadcast_onu then Some serial else None
followed_up _ = None

-- there is a serial number to follow, it is new, and there is room for it
abbrev pub IsNew : Watch → Option Serial → Type 0
IsNew watch None = ⊥
IsNew watch (Some serial) = (get watch.asks serial ≡ None) × (can_follow watch serial ≡ true)

-- there is one, and its asks can't be counted further
abbrev pub IsCounted : Watch → Option Serial → Type 0
IsCounted watch None = ⊥
IsCounted watch (Some serial) = get watch.asks serial ≡ Some (2 ^ 64 - 1)

-- why nothing is noted of a serial number that asks: memory is wanted only where it is new
abbrev pub FailsBy : Watch → Option Serial → WatchFault → Type 0
FailsBy watch serial OutOfMemory = IsNew watch serial
FailsBy watch serial Full = IsCounted watch serial

-- the serial number that asks, if one does
abbrev pub asking_heard : Heard → Option Serial
asking_heard (heard.Up message delay) = followed_up message
asking_heard _ = None

-- the serial number that a message down has followed with this copy: copies that tell it no more change nothing of that
abbrev pub followed_by_copy : Watch → Down → Option Serial
followed_by_copy watch message = if is_new watch message then followed_by message else None

abbrev pub followed_now : Watch → Heard → Option Serial
followed_now watch (heard.Down None) = None
followed_now watch (heard.Down (Some message)) = followed_by_copy watch message
followed_now watch (heard.Up message delay) = followed_up message
followed_now watch (heard.Grant grant) = None

-- why nothing is noted of what is heard: memory is wanted only where a serial number is new, and only asks are counted
abbrev pub FailsOn : Watch → Heard → WatchFault → Type 0
FailsOn watch heard OutOfMemory = IsNew watch (followed_now watch heard)
FailsOn watch heard Full = IsCounted watch (asking_heard heard)
