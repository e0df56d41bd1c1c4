-- The rules that a message of a unit may break, each by what is known before it (G.984.3, clauses 9 and 10; what is
-- judged, and where it isn't, is this profile's own rule).
use Rattle.std.specs.Prelude.{ℕ, ◌+◌, ◌-◌, ◌==◌, ◌&&◌, ◌||◌, nat_lt, Bool, true, false, not, Option, None, Some, is_none}
use Rattle.std.specs.FinMap.{get}
use Rattle.std.specs.FinSet.{contains}
use Rattle.gp_ploam.specs.declared.message.Up.{Up}
use Rattle.gp_ploam.specs.declared.message.Up.TheVariants.{SerialNumber, Acknowledge}
use Rattle.gp_ploam.specs.OnuIds.{broadcast_onu}
use Rattle.gp_ploam.specs.Up.{octet1_of}
use Rattle.gp_observer.specs.Observer.{some_passes}
use Rattle.gp_observer.specs.Watch.{Watch}
use Rattle.gp_observer.specs.Rules.{Settings, is_judged, is_held, is_anothers, holds_one}

-- `disabled`: it asks though its serial number is disabled
abbrev pub breaks_disabled : Watch → Up → Bool
breaks_disabled watch (SerialNumber onu serial random flags) =
    onu == broadcast_onu && contains watch.seen.disabled serial
breaks_disabled watch _ = false

-- `anew`: it asks though it holds an ONU-ID: it restarted, or missed its assignment
abbrev pub breaks_anew : Watch → Up → Bool
breaks_anew watch (SerialNumber onu serial random flags) =
    onu == broadcast_onu && holds_one watch serial (λ held. true)
breaks_anew watch _ = false

-- the serial number is given with an ONU-ID that another unit holds
abbrev pub names_anothers : Watch → Up → Bool
names_anothers watch (SerialNumber onu serial random flags) = is_anothers watch onu serial
names_anothers watch _ = false

-- `number`: it speaks with an ONU-ID that nobody holds, or gives its serial number with another's ONU-ID
abbrev pub breaks_number : Watch → Up → Bool
breaks_number watch message =
    not (octet1_of message == broadcast_onu) && is_judged watch (octet1_of message)
    && (is_none (get watch.seen.holder (octet1_of message)) || names_anothers watch message)

-- `acknowledge`: it acknowledges an Assign_Alloc-ID, and none was sent to it since it was assigned
abbrev pub breaks_acknowledge : Watch → Up → Bool
breaks_acknowledge watch (Acknowledge onu id copy) = id == 10 && is_held watch onu && not (contains watch.told onu)
breaks_acknowledge watch _ = false

-- how far two numbers are apart
abbrev pub distance : ℕ → ℕ → ℕ
distance one other = (one - other) + (other - one)

-- with its equalization delay this one isn't near the equalized delay
abbrev pub drifts : Settings → ℕ → ℕ → Bool
drifts settings delay eqd = nat_lt settings.drift (distance (delay + eqd) settings.teqd)

-- `drift`: its delay isn't near the one that it was ranged with
abbrev pub breaks_drift : Settings → Watch → Up → Option ℕ → Bool
breaks_drift settings watch message None = false
breaks_drift settings watch message (Some delay) =
    not (octet1_of message == broadcast_onu) && not (breaks_number watch message)
    && some_passes (drifts settings delay) (get watch.seen.delay (octet1_of message))
