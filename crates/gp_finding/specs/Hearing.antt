-- What is heard where something is said: its code is read under the mask, by the rows of its direction (G.984.3,
-- clause 9). The law of `heard_in` says that this is how codes are read (`IsHeard`).
use Rattle.std.specs.Prelude.{◌≡◌, ◌+◌, ◌*◌, ◌/◌, ◌%◌, ◌==◌, ◌&&◌, ℕ, Bool, true, false, if◌then◌else◌, List, take, drop, slice_index, Option, None, Some}
use Rattle.std.specs.Int.{from_be_bytes, w32}
use Rattle.gp_ploam.specs.declared.check.Mask.{Mask}
use Rattle.gp_ploam.specs.declared.message.Serial.{Serial}
use Rattle.gp_ploam.specs.declared.message.Down.{Down}
use Rattle.gp_ploam.specs.declared.message.Down.TheVariants as down
use Rattle.gp_ploam.specs.declared.message.Up.{Up}
use Rattle.gp_ploam.specs.declared.message.Up.TheVariants as up
use Rattle.gp_ploam.specs.Crc.{crc_of}
use Rattle.gp_ploam.specs.Mask.{mask_value}
use Rattle.gp_ploam.specs.OnuIds.{broadcast_onu}
use Rattle.gp_machine.specs.Step.{Hears}
use Rattle.gp_observer.specs.Fibre.{HearsDown}
use Rattle.gp_observer.specs.Heard.{Heard, HeardDown, HeardUp, HeardGrant}
use Rattle.gp_log.specs.declared.said.Said.{Said}
use Rattle.gp_log.specs.declared.said.Said.TheVariants as said

-- the serial number that begins behind so many octets
abbrev pub serial_behind : ℕ → List ℕ → Serial
serial_behind count octets = record { 0 = take 8 (drop count octets) }

-- ---- a message down, by its twelve octets

-- one that has no row of its own
abbrev pub other_down : List ℕ → Down
other_down octets = down.Other (slice_index octets 1) (slice_index octets 0) (drop 2 octets)

-- Disable_Serial_Number, by octet 3
abbrev pub admission_of : List ℕ → Down
admission_of octets =
    if slice_index octets 2 == 255 then down.DisableSerial (serial_behind 3 octets)
    else if slice_index octets 2 == 0 then down.EnableSerial (serial_behind 3 octets)
    else if slice_index octets 2 == 15 then down.EnableAll
    else other_down octets

-- the Alloc-ID in octets 3 and 4
abbrev pub alloc_in : List ℕ → ℕ
alloc_in octets = slice_index octets 2 * 16 + slice_index octets 3 / 16

-- Assign_Alloc-ID, by octet 5, the Alloc-ID type
abbrev pub alloc_of : List ℕ → Down
alloc_of octets =
    if slice_index octets 4 == 1 then down.AssignAlloc (slice_index octets 0) (alloc_in octets) true
    else if slice_index octets 4 == 255 then down.AssignAlloc (slice_index octets 0) (alloc_in octets) false
    else other_down octets

-- a message to every unit, by its identifier
abbrev pub broadcast_of : List ℕ → Down
broadcast_of octets =
    if slice_index octets 1 == 1 then down.UpstreamOverhead (drop 2 octets)
    else if slice_index octets 1 == 3 then down.AssignOnu (slice_index octets 2) (serial_behind 3 octets)
    else if slice_index octets 1 == 6 then admission_of octets
    else other_down octets

-- any message, by its identifier
abbrev pub down_of : List ℕ → Down
down_of octets =
    if slice_index octets 1 == 4 && slice_index octets 2 % 2 == 0
    then down.RangingTime (slice_index octets 0) (from_be_bytes w32 (take 4 (drop 3 octets)))
    else if slice_index octets 1 == 5 then down.Deactivate (slice_index octets 0)
    else if slice_index octets 1 == 10 then alloc_of octets
    else if slice_index octets 1 == 11 then down.NoMessage
    else if slice_index octets 1 == 12 then down.Popup (slice_index octets 0)
    else if slice_index octets 0 == broadcast_onu then broadcast_of octets
    else other_down octets

-- ---- a message up

abbrev pub serial_number_of : List ℕ → Up
serial_number_of octets =
    up.SerialNumber (slice_index octets 0) (serial_behind 2 octets)
    (slice_index octets 10 * 16 + slice_index octets 11 / 16) (slice_index octets 11 % 16)

abbrev pub up_of : List ℕ → Up
up_of octets =
    if slice_index octets 1 == 1 then serial_number_of octets
    else if slice_index octets 1 == 3 then up.DyingGasp (slice_index octets 0)
    else if slice_index octets 1 == 4 then up.NoMessage (slice_index octets 0)
    else if slice_index octets 1 == 9 then up.Acknowledge (slice_index octets 0) (slice_index octets 2) (drop 3 octets)
    else up.Other (slice_index octets 1) (slice_index octets 0) (drop 2 octets)

-- ---- what is said

-- its check octet is right under the mask
abbrev pub is_right : Mask → List ℕ → Bool
is_right mask code = slice_index code 12 == crc_of (take 12 code) (mask_value mask)

-- the message that a code is read as, or None where its check octet is wrong
abbrev pub down_in : Mask → List ℕ → Option Down
down_in mask code = if is_right mask code then Some (down_of (take 12 code)) else None

abbrev pub up_in : Mask → List ℕ → Option Up
up_in mask code = if is_right mask code then Some (up_of (take 12 code)) else None

-- what is heard where this is said
unfoldable pub heard_in : Mask → Said → Heard
heard_in mask (said.Down code) = HeardDown (down_in mask code)
heard_in mask (said.Up code delay) = HeardUp (up_in mask code) delay
heard_in mask (said.Grant grant) = HeardGrant grant

-- this is heard: a code is read as the message, or has a wrong check octet, and all else is as it was said
abbrev pub IsHeard : Mask → Said → Heard → Type 0
IsHeard mask (said.Down code) (HeardDown message) = HearsDown (mask_value mask) code message
IsHeard mask (said.Up code delay) (HeardUp message measured) =
    Hears (mask_value mask) code message × (measured ≡ delay)
IsHeard mask (said.Grant grant) (HeardGrant given) = given ≡ grant
IsHeard mask _ _ = ⊥
