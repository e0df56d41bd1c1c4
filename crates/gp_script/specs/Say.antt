-- The event tables with `say`: a unit's message arrives, encoded with the script's mask (this profile's own rule). Each
-- function is given how many ports there are.
use Rattle.std.specs.Prelude.{ℕ, [], ◌∷◌, Result, Ok, Err, if◌then◌else◌, codes, replicate}
use Rattle.std.specs.Str.{bytes_eq}
use Rattle.toml.specs.Data.{Members}
use Rattle.gp_ploam.specs.declared.check.Mask.{Mask}
use Rattle.gp_ploam.specs.declared.message.Up.{Up}
use Rattle.gp_ploam.specs.declared.message.Up.TheVariants.{SerialNumber, DyingGasp, NoMessage, Acknowledge}
use Rattle.gp_ploam.specs.Mask.{mask_value}
use Rattle.gp_ploam.specs.Up.{code_of_up}
use Rattle.gp_script.specs.declared.script.ScriptEvent.{ScriptEvent}
use Rattle.gp_script.specs.declared.script.ScriptEvent.TheVariants.{Burst}
use Rattle.gp_script.specs.declared.say.Speaker.{Speaker}
use Rattle.gp_script.specs.declared.place.Key.TheVariants as key
use Rattle.gp_script.specs.declared.place.Spot.TheVariants as spots
use Rattle.gp_script.specs.declared.place.Wanted.TheVariants as wanted
use Rattle.gp_script.specs.Fault.{◌>>=◌}
use Rattle.gp_script.specs.Mistake.{TableMistakeView, unmet, at_key}
use Rattle.gp_script.specs.Keys.{has_only, number_at, needed_number, needed_text}
use Rattle.gp_script.specs.Values.{delay_in, in_range_or, octet_in, place_in, serial_of}

-- a unit's message arrives
abbrev pub said : Mask → Speaker → Up → ScriptEvent
said mask speaker message = Burst speaker.port speaker.at (code_of_up message (mask_value mask))

-- a unit says its serial number
unfoldable pub say_serial : ℕ → Mask → Members → Result ScriptEvent TableMistakeView
say_serial ports mask members = do
  _ ← has_only (key.Port ∷ key.At ∷ key.Say ∷ key.Serial ∷ key.Onu ∷ []) members
  port ← needed_number key.Port members
  at ← needed_number key.At members
  serial ← needed_text key.Serial members
  onu ← number_at key.Onu members
  port ← at_key key.Port (place_in ports port)
  at ← at_key key.At (delay_in at)
  serial ← at_key key.Serial (serial_of serial)
  onu ← at_key key.Onu (in_range_or 255 0 255 onu)
  Ok (said mask (record { port = port; at = at; onu = onu }) (SerialNumber onu serial 0 0))

-- who says something that its ONU-ID says whole
unfoldable pub speaker_of : ℕ → Members → Result Speaker TableMistakeView
speaker_of ports members = do
  _ ← has_only (key.Port ∷ key.At ∷ key.Say ∷ key.Onu ∷ []) members
  port ← needed_number key.Port members
  at ← needed_number key.At members
  onu ← needed_number key.Onu members
  port ← at_key key.Port (place_in ports port)
  at ← at_key key.At (delay_in at)
  onu ← at_key key.Onu (octet_in onu)
  Ok (record { port = port; at = at; onu = onu })

-- a unit says that it is losing its power
unfoldable pub say_gasp : ℕ → Mask → Members → Result ScriptEvent TableMistakeView
say_gasp ports mask members = do
  speaker ← speaker_of ports members
  Ok (said mask speaker (DyingGasp speaker.onu))

-- a unit says that it has nothing to say
unfoldable pub say_none : ℕ → Mask → Members → Result ScriptEvent TableMistakeView
say_none ports mask members = do
  speaker ← speaker_of ports members
  Ok (said mask speaker (NoMessage speaker.onu))

-- a unit acknowledges a message with this identifier, whose copy is left zeros
unfoldable pub say_ack : ℕ → Mask → Members → Result ScriptEvent TableMistakeView
say_ack ports mask members = do
  _ ← has_only (key.Port ∷ key.At ∷ key.Say ∷ key.Onu ∷ key.Id ∷ []) members
  port ← needed_number key.Port members
  at ← needed_number key.At members
  onu ← needed_number key.Onu members
  id ← needed_number key.Id members
  port ← at_key key.Port (place_in ports port)
  at ← at_key key.At (delay_in at)
  onu ← at_key key.Onu (octet_in onu)
  id ← at_key key.Id (octet_in id)
  Ok (said mask (record { port = port; at = at; onu = onu }) (Acknowledge onu id (replicate 9 0)))

-- what a unit says is told by its word
unfoldable pub say_event : ℕ → Mask → Members → Result ScriptEvent TableMistakeView
say_event ports mask members = do
  word ← needed_text key.Say members
  if bytes_eq word (codes "serial") then say_serial ports mask members
      else if bytes_eq word (codes "gasp") then say_gasp ports mask members
      else if bytes_eq word (codes "none") then say_none ports mask members
      else if bytes_eq word (codes "ack") then say_ack ports mask members
      else Err (unmet (spots.Key key.Say) wanted.Word)
