-- The message that words say: the inverse of what `decode` says of a code (this profile's own rule). The first part
-- names the message as G.984.3, clause 9, does; its fields follow.
use Rattle.std.specs.Prelude.{ℕ, List, [], ◌∷◌, Result, Ok, Err, if◌then◌else◌, codes, replicate}
use Rattle.std.specs.Str.{bytes_eq}
use Rattle.gp_ploam.specs.declared.message.Down.{Down}
use Rattle.gp_ploam.specs.declared.message.Down.TheVariants as down
use Rattle.gp_ploam.specs.declared.message.Up.{Up}
use Rattle.gp_ploam.specs.declared.message.Up.TheVariants as up
use Rattle.gp_lines.specs.declared.fault.LineFault.{LineFault}
use Rattle.gp_lines.specs.declared.fault.LineFault.TheVariants as fault
use Rattle.gp_lines.specs.Parts.{parts_of}
use Rattle.gp_lines.specs.Reading.{◌>>=◌}
use Rattle.gp_encode.specs.Fields.{ended, next_body, next_keep, next_number, next_serial}

unfoldable pub down_overhead : List (List ℕ) → Result Down LineFault
down_overhead parts = do
  burst ← next_body parts
  done ← ended burst.1
  Ok (down.UpstreamOverhead burst.0)

unfoldable pub down_assign_onu : List (List ℕ) → Result Down LineFault
down_assign_onu parts = do
  onu ← next_number 255 parts
  serial ← next_serial onu.1
  done ← ended serial.1
  Ok (down.AssignOnu onu.0 serial.0)

unfoldable pub down_ranging_time : List (List ℕ) → Result Down LineFault
down_ranging_time parts = do
  onu ← next_number 255 parts
  eqd ← next_number 4294967295 onu.1
  done ← ended eqd.1
  Ok (down.RangingTime onu.0 eqd.0)

unfoldable pub down_deactivate : List (List ℕ) → Result Down LineFault
down_deactivate parts = do
  onu ← next_number 255 parts
  done ← ended onu.1
  Ok (down.Deactivate onu.0)

unfoldable pub down_disable_serial : List (List ℕ) → Result Down LineFault
down_disable_serial parts = do
  serial ← next_serial parts
  done ← ended serial.1
  Ok (down.DisableSerial serial.0)

unfoldable pub down_enable_serial : List (List ℕ) → Result Down LineFault
down_enable_serial parts = do
  serial ← next_serial parts
  done ← ended serial.1
  Ok (down.EnableSerial serial.0)

unfoldable pub down_enable_all : List (List ℕ) → Result Down LineFault
down_enable_all parts = do
  done ← ended parts
  Ok down.EnableAll

unfoldable pub down_assign_alloc : List (List ℕ) → Result Down LineFault
down_assign_alloc parts = do
  onu ← next_number 255 parts
  alloc ← next_number 4095 onu.1
  keep ← next_keep alloc.1
  done ← ended keep.1
  Ok (down.AssignAlloc onu.0 alloc.0 keep.0)

unfoldable pub down_nothing : List (List ℕ) → Result Down LineFault
down_nothing parts = do
  done ← ended parts
  Ok down.NoMessage

unfoldable pub down_popup : List (List ℕ) → Result Down LineFault
down_popup parts = do
  onu ← next_number 255 parts
  done ← ended onu.1
  Ok (down.Popup onu.0)

unfoldable pub down_other : List (List ℕ) → Result Down LineFault
down_other parts = do
  id ← next_number 255 parts
  octet1 ← next_number 255 id.1
  body ← next_body octet1.1
  done ← ended body.1
  Ok (down.Other id.0 octet1.0 body.0)

-- the message of the line terminal with this name
unfoldable pub down_named : List ℕ → List (List ℕ) → Result Down LineFault
down_named word parts =
    if bytes_eq word (codes "Upstream_Overhead") then down_overhead parts
    else if bytes_eq word (codes "Assign_ONU-ID") then down_assign_onu parts
    else if bytes_eq word (codes "Ranging_Time") then down_ranging_time parts
    else if bytes_eq word (codes "Deactivate_ONU-ID") then down_deactivate parts
    else if bytes_eq word (codes "Disable_Serial_Number") then down_disable_serial parts
    else if bytes_eq word (codes "Enable_Serial_Number") then down_enable_serial parts
    else if bytes_eq word (codes "Enable_All") then down_enable_all parts
    else if bytes_eq word (codes "Assign_Alloc-ID") then down_assign_alloc parts
    else if bytes_eq word (codes "No_message") then down_nothing parts
    else if bytes_eq word (codes "POPUP") then down_popup parts
    else if bytes_eq word (codes "Other") then down_other parts
    else Err fault.Word

abbrev pub down_of_parts : List (List ℕ) → Result Down LineFault
down_of_parts [] = Err fault.Word
down_of_parts (word ∷ parts) = down_named word parts

-- the message of the line terminal that a text says
abbrev pub down_of : List ℕ → Result Down LineFault
down_of text = down_of_parts (parts_of text)

-- the words of an acknowledgement leave the copy of the message out: nine zeros stand for it
abbrev pub no_copy : List ℕ
no_copy = replicate 9 0

unfoldable pub up_serial_number : List (List ℕ) → Result Up LineFault
up_serial_number parts = do
  onu ← next_number 255 parts
  serial ← next_serial onu.1
  random ← next_number 4095 serial.1
  flags ← next_number 15 random.1
  done ← ended flags.1
  Ok (up.SerialNumber onu.0 serial.0 random.0 flags.0)

unfoldable pub up_gasp : List (List ℕ) → Result Up LineFault
up_gasp parts = do
  onu ← next_number 255 parts
  done ← ended onu.1
  Ok (up.DyingGasp onu.0)

unfoldable pub up_nothing : List (List ℕ) → Result Up LineFault
up_nothing parts = do
  onu ← next_number 255 parts
  done ← ended onu.1
  Ok (up.NoMessage onu.0)

unfoldable pub up_acknowledge : List (List ℕ) → Result Up LineFault
up_acknowledge parts = do
  onu ← next_number 255 parts
  id ← next_number 255 onu.1
  done ← ended id.1
  Ok (up.Acknowledge onu.0 id.0 no_copy)

unfoldable pub up_other : List (List ℕ) → Result Up LineFault
up_other parts = do
  id ← next_number 255 parts
  octet1 ← next_number 255 id.1
  body ← next_body octet1.1
  done ← ended body.1
  Ok (up.Other id.0 octet1.0 body.0)

-- the message of a unit with this name
unfoldable pub up_named : List ℕ → List (List ℕ) → Result Up LineFault
up_named word parts =
    if bytes_eq word (codes "Serial_Number_ONU") then up_serial_number parts
    else if bytes_eq word (codes "Dying_Gasp") then up_gasp parts
    else if bytes_eq word (codes "No_message") then up_nothing parts
    else if bytes_eq word (codes "Acknowledge") then up_acknowledge parts
    else if bytes_eq word (codes "Other") then up_other parts
    else Err fault.Word

abbrev pub up_of_parts : List (List ℕ) → Result Up LineFault
up_of_parts [] = Err fault.Word
up_of_parts (word ∷ parts) = up_named word parts

-- the message of a unit that a text says
abbrev pub up_of : List ℕ → Result Up LineFault
up_of text = up_of_parts (parts_of text)
