-- Messages in words: the name that G.984.3, clause 9, gives the message, and its fields. That numbers are decimal and
-- octets hexadecimal digits is this profile's own rule.
use Rattle.std.specs.Prelude.{ℕ, Bool, true, false, List, ◌++◌, Option, None, Some, codes, decimal}
use Rattle.hex.specs.Hex.{encode_lower}
use Rattle.gp_ploam.specs.declared.message.Down.{Down}
use Rattle.gp_ploam.specs.declared.message.Down.TheVariants as down
use Rattle.gp_ploam.specs.declared.message.Up.{Up}
use Rattle.gp_ploam.specs.declared.message.Up.TheVariants as up
use Rattle.gp_serial.specs.Spelling.{text_of_serial}
use Rattle.gp_decode.specs.Names.{other_name}

-- what becomes of an Alloc-ID: the unit keeps it, or it is taken back
abbrev pub keep_text : Bool → List ℕ
keep_text true = codes "keep"
keep_text false = codes "back"

-- a message that this profile has no name for: its identifier, its octet 1, and octets 3 to 12
abbrev pub other_text : ℕ → ℕ → List ℕ → List ℕ
other_text id octet1 body =
    codes "Other " ++ decimal id ++ codes " " ++ decimal octet1 ++ codes " " ++ encode_lower body

-- the same by the name that the standard has for it, in place of its identifier; as it is told else where it has none
abbrev pub named_text : Option (List ℕ) → ℕ → ℕ → List ℕ → List ℕ
named_text None id octet1 body = other_text id octet1 body
named_text (Some name) id octet1 body = name ++ codes " " ++ decimal octet1 ++ codes " " ++ encode_lower body

-- a message of the line terminal
abbrev pub down_text : Down → List ℕ
down_text (down.UpstreamOverhead burst) = codes "Upstream_Overhead " ++ encode_lower burst
down_text (down.AssignOnu onu serial) = codes "Assign_ONU-ID " ++ decimal onu ++ codes " " ++ text_of_serial serial
down_text (down.RangingTime onu eqd) = codes "Ranging_Time " ++ decimal onu ++ codes " " ++ decimal eqd
down_text (down.Deactivate onu) = codes "Deactivate_ONU-ID " ++ decimal onu
down_text (down.DisableSerial serial) = codes "Disable_Serial_Number " ++ text_of_serial serial
down_text (down.EnableSerial serial) = codes "Enable_Serial_Number " ++ text_of_serial serial
down_text down.EnableAll = codes "Enable_All"
down_text (down.AssignAlloc onu alloc keep) =
    codes "Assign_Alloc-ID " ++ decimal onu ++ codes " " ++ decimal alloc ++ codes " " ++ keep_text keep
down_text down.NoMessage = codes "No_message"
down_text (down.Popup onu) = codes "POPUP " ++ decimal onu
down_text (down.Other id octet1 body) = other_text id octet1 body

-- a message of a unit; the copy in an Acknowledge is left out
abbrev pub up_text : Up → List ℕ
up_text (up.SerialNumber onu serial random flags) =
    codes "Serial_Number_ONU " ++ decimal onu ++ codes " " ++ text_of_serial serial ++ codes " " ++ decimal random
    ++ codes " " ++ decimal flags
up_text (up.DyingGasp onu) = codes "Dying_Gasp " ++ decimal onu
up_text (up.NoMessage onu) = codes "No_message " ++ decimal onu
up_text (up.Acknowledge onu id copy) = codes "Acknowledge " ++ decimal onu ++ codes " " ++ decimal id
up_text (up.Other id octet1 body) = other_text id octet1 body

-- a message of the line terminal, with the standard's name of one that this profile has no name for
abbrev pub down_named : Down → List ℕ
down_named (down.Other id octet1 body) = named_text (other_name false id) id octet1 body
down_named message = down_text message

-- a message of a unit, with such a name
abbrev pub up_named : Up → List ℕ
up_named (up.Other id octet1 body) = named_text (other_name true id) id octet1 body
up_named message = up_text message

-- a message of the line terminal, with such names or without
abbrev pub down_words : Bool → Down → List ℕ
down_words true message = down_named message
down_words false message = down_text message

-- a message of a unit
abbrev pub up_words : Bool → Up → List ℕ
up_words true message = up_named message
up_words false message = up_text message
