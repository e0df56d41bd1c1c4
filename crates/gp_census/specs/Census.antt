-- What is counted of a port and of its units, by what is heard and by what is known before it (this profile's own
-- rule).
use Rattle.std.specs.Prelude.{◌≡◌, ℕ, zero, suc, ◌==◌, ◌&&◌, true, not, if◌then◌else◌, Option, None, Some}
use Rattle.std.specs.FinMap.{FinMap, empty, get, insert}
use Rattle.gp_ploam.specs.declared.message.Serial.{Serial}
use Rattle.gp_ploam.specs.declared.message.Down.{Down}
use Rattle.gp_ploam.specs.declared.message.Down.TheVariants.{AssignOnu, RangingTime, Deactivate, DisableSerial}
use Rattle.gp_ploam.specs.declared.message.Down.TheVariants as down
use Rattle.gp_ploam.specs.declared.message.Up.{Up}
use Rattle.gp_ploam.specs.declared.message.Up.TheVariants.{SerialNumber}
use Rattle.gp_ploam.specs.OnuIds.{onu_ids, broadcast_onu}
use Rattle.gp_ploam.specs.Serials.{serial_cmp}
use Rattle.gp_ploam.specs.Up.{octet1_of}
use Rattle.gp_observer.specs.Observer.{is_of, is_unit_number}
use Rattle.gp_observer.specs.Watch.{Watch, can_follow, is_new}
use Rattle.gp_observer.specs.Rules.{holds_one, is_anothers}
use Rattle.gp_observer.specs.Heard.{Heard, HeardDown, HeardUp, HeardGrant}
use Rattle.gp_census.specs.declared.sighting.Sighting.{Sighting}
use Rattle.gp_census.specs.declared.sighting.PortCounts.{PortCounts}
use Rattle.gp_census.specs.declared.sighting.UnitEvent.{UnitEvent}
use Rattle.gp_census.specs.declared.sighting.UnitEvent.TheVariants.{Asks, IsAssigned, IsRanged, IsRenumbered, Loses, Answers}
use Rattle.gp_census.specs.Counts.{no_counts, no_sighting, one_more, sighting_after}

-- from each serial number that is counted to what was counted of it
abbrev pub Sightings : Type 0
Sightings = FinMap serial_cmp Sighting

pub record Census : Type 0 where
  pub units : Sightings
  pub port : PortCounts

-- nothing was heard
abbrev pub census_begun : Census
census_begun = record { units = empty; port = no_counts }

-- ---- what happens to a unit

-- what was counted of a unit, if anything was
abbrev pub sighting_of : Option Sighting → Sighting
sighting_of None = no_sighting
sighting_of (Some unit) = unit

-- this happens to a unit, whose serial number is counted from now on
abbrev pub counted : Sightings → Serial → UnitEvent → Sightings
counted units serial event = insert units serial (sighting_after event (sighting_of (get units serial)))

-- but only where an observer follows it or has room to
abbrev pub counted_if : Sightings → Watch → Serial → UnitEvent → Sightings
counted_if units watch serial event = if can_follow watch serial then counted units serial event else units

-- this happens to a unit, if its serial number is counted
abbrev pub changed_at : Sightings → Serial → UnitEvent → Option Sighting → Sightings
changed_at units serial event None = units
changed_at units serial event (Some unit) = insert units serial (sighting_after event unit)

abbrev pub changed : Sightings → Serial → UnitEvent → Sightings
changed units serial event = changed_at units serial event (get units serial)

-- it happens to the unit that holds an ONU-ID, if one does
abbrev pub changed_of : Sightings → Option Serial → UnitEvent → Sightings
changed_of units None event = units
changed_of units (Some serial) event = changed units serial event

abbrev pub changed_holder : Sightings → Watch → ℕ → UnitEvent → Sightings
changed_holder units watch onu event = changed_of units (get watch.seen.holder onu) event

-- ---- a message down

-- an ONU-ID is assigned to a unit, or the one that holds the ONU-ID is ranged
abbrev pub units_told : Sightings → Watch → Down → ℕ → Sightings
units_told units watch (AssignOnu onu serial) time = counted_if units watch serial IsAssigned
units_told units watch (RangingTime onu eqd) time = changed_holder units watch onu (IsRanged time)
units_told units watch _ time = units

-- each unit that holds an ONU-ID below this one loses it
unfoldable pub all_lost : ℕ → Sightings → Watch → Sightings
all_lost zero units watch = units
all_lost (suc onu) units watch = changed_holder (all_lost onu units watch) watch onu Loses

-- Assign_ONU-ID takes the ONU-ID from another unit that holds it, and from its own unit the other one that it holds
abbrev pub lost_to_another : Sightings → Watch → ℕ → Serial → Sightings
lost_to_another units watch onu serial =
    if is_anothers watch onu serial then changed_holder units watch onu Loses else units

abbrev pub lost_for_another : Sightings → Watch → ℕ → Serial → Sightings
lost_for_another units watch onu serial =
    if holds_one watch serial (λ other. not (other == onu)) then changed units serial IsRenumbered else units

-- who loses an ONU-ID by a message
abbrev pub units_lost : Sightings → Watch → Down → Sightings
units_lost units watch (AssignOnu onu serial) =
    if is_unit_number onu then lost_for_another (lost_to_another units watch onu serial) watch onu serial else units
units_lost units watch (Deactivate onu) =
    if onu == broadcast_onu then all_lost onu_ids units watch else changed_holder units watch onu Loses
units_lost units watch (DisableSerial serial) =
    if holds_one watch serial (λ _. true) then changed units serial Loses else units
units_lost units watch _ = units

abbrev pub message_noted : Census → Watch → Down → ℕ → Census
message_noted census watch message time =
    record {
      units = units_lost (units_told census.units watch message time) watch message;
      port = record census.port { messages = one_more census.port.messages };
    }

-- the copies of a message count once, with the one that tells it
abbrev pub copy_noted : Census → Watch → Down → ℕ → Census
copy_noted census watch message time =
    if is_new watch message then message_noted census watch message time else census

abbrev pub down_noted : Census → Watch → Option Down → ℕ → Census
down_noted census watch None time =
    record census { port = record census.port { garbled_down = one_more census.port.garbled_down } }
down_noted census watch (Some down.NoMessage) time = census
down_noted census watch (Some message) time = copy_noted census watch message time

-- ---- a code up

-- a unit gives its serial number: it asks with 255, and answers with the ONU-ID that it holds
abbrev pub serial_noted : Sightings → Watch → ℕ → Serial → ℕ → Sightings
serial_noted units watch onu serial time =
    if onu == broadcast_onu then counted_if units watch serial (Asks time)
    else if is_of watch.seen serial onu then changed units serial (Answers time)
    else units

-- any other code is an answer of the unit that holds its ONU-ID
abbrev pub units_heard : Sightings → Watch → Option Up → ℕ → Sightings
units_heard units watch None time = units
units_heard units watch (Some (SerialNumber onu serial random flags)) time = serial_noted units watch onu serial time
units_heard units watch (Some message) time = changed_holder units watch (octet1_of message) (Answers time)

-- each code up is counted, and how many of them are garbled
abbrev pub port_heard : PortCounts → Option Up → PortCounts
port_heard port None = record port { up = one_more port.up; garbled_up = one_more port.garbled_up }
port_heard port (Some message) = record port { up = one_more port.up }

abbrev pub up_noted : Census → Watch → Option Up → ℕ → Census
up_noted census watch message time =
    record { units = units_heard census.units watch message time; port = port_heard census.port message }

-- ---- all that is heard

-- what is counted after this is heard at this time, by what was known before it
abbrev pub noted : Census → Watch → Heard → ℕ → Census
noted census watch (HeardDown message) time = down_noted census watch message time
noted census watch (HeardUp message delay) time = up_noted census watch message time
noted census watch (HeardGrant grant) time =
    record census { port = record census.port { grants = one_more census.port.grants } }

-- ---- what can't be counted

-- the serial number that is counted from now on, if there is one
abbrev pub counted_by_message : Down → Option Serial
counted_by_message (AssignOnu onu serial) = Some serial
counted_by_message _ = None

-- with this copy: copies that tell a message no more count nothing
abbrev pub counted_by_copy : Watch → Down → Option Serial
counted_by_copy watch message = if is_new watch message then counted_by_message message else None

abbrev pub counted_by_down : Watch → Option Down → Option Serial
counted_by_down watch None = None
counted_by_down watch (Some message) = counted_by_copy watch message

abbrev pub counted_by_up : Option Up → Option Serial
counted_by_up (Some (SerialNumber onu serial random flags)) = if onu == broadcast_onu then Some serial else None
counted_by_up _ = None

abbrev pub counted_by : Watch → Heard → Option Serial
counted_by watch (HeardDown message) = counted_by_down watch message
counted_by watch (HeardUp message delay) = counted_by_up message
counted_by watch (HeardGrant grant) = None

-- there is one, nothing was counted of it, and an observer follows it or has room to: only then memory is wanted
abbrev pub IsNewTo : Watch → Sightings → Option Serial → Type 0
IsNewTo watch units None = ⊥
IsNewTo watch units (Some serial) = (get units serial ≡ None) × (can_follow watch serial ≡ true)
