-- A message as an object: its name, and its fields by theirs (this profile's own rule). That the name of one that this
-- profile has no row for is the standard's is G.984.3's, clause 9.2.
use Rattle.std.specs.Prelude.{ℕ, Bool, true, false, List, [], ◌++◌, Option, None, Some, codes, decimal}
use Rattle.hex.specs.Hex.{encode_lower}
use Rattle.gp_ploam.specs.declared.message.Down.{Down}
use Rattle.gp_ploam.specs.declared.message.Down.TheVariants as down
use Rattle.gp_ploam.specs.declared.message.Up.{Up}
use Rattle.gp_ploam.specs.declared.message.Up.TheVariants as up
use Rattle.gp_ploam.specs.declared.message.Serial.{Serial}
use Rattle.gp_serial.specs.Spelling.{text_of_serial}
use Rattle.gp_decode.specs.Names.{other_name}

-- the name of a field behind another
abbrev pub key_text : List ℕ → List ℕ
key_text key = codes ",\"" ++ key ++ codes "\":"

-- a number
abbrev pub number_field : List ℕ → ℕ → List ℕ
number_field key number = key_text key ++ decimal number

-- a text in which nothing is escaped
abbrev pub text_field : List ℕ → List ℕ → List ℕ
text_field key text = key_text key ++ codes "\"" ++ text ++ codes "\""

abbrev pub truth : Bool → List ℕ
truth true = codes "true"
truth false = codes "false"

-- an ONU-ID
abbrev pub onu_field : ℕ → List ℕ
onu_field onu = number_field (codes "onu") onu

-- a serial number, as a serial text
abbrev pub serial_field : Serial → List ℕ
serial_field serial = text_field (codes "serial") (text_of_serial serial)

-- ten octets, in lower-case hexadecimal digits
abbrev pub octets_field : List ℕ → List ℕ
octets_field octets = text_field (codes "octets") (encode_lower octets)

-- a message that this profile has no row for: its identifier, its octet 1, and octets 3 to 12
abbrev pub other_fields : ℕ → ℕ → List ℕ → List ℕ
other_fields id octet1 body =
    number_field (codes "id") id ++ number_field (codes "octet1") octet1 ++ octets_field body

-- its name: the standard's, if it has one
abbrev pub name_or_other : Option (List ℕ) → List ℕ
name_or_other None = codes "Other"
name_or_other (Some name) = name

-- the name of a message of the line terminal
abbrev pub down_name : Down → List ℕ
down_name (down.UpstreamOverhead burst) = codes "Upstream_Overhead"
down_name (down.AssignOnu onu serial) = codes "Assign_ONU-ID"
down_name (down.RangingTime onu eqd) = codes "Ranging_Time"
down_name (down.Deactivate onu) = codes "Deactivate_ONU-ID"
down_name (down.DisableSerial serial) = codes "Disable_Serial_Number"
down_name (down.EnableSerial serial) = codes "Enable_Serial_Number"
down_name down.EnableAll = codes "Enable_All"
down_name (down.AssignAlloc onu alloc keep) = codes "Assign_Alloc-ID"
down_name down.NoMessage = codes "No_message"
down_name (down.Popup onu) = codes "POPUP"
down_name (down.Other id octet1 body) = name_or_other (other_name false id)

-- its fields
abbrev pub down_fields : Down → List ℕ
down_fields (down.UpstreamOverhead burst) = octets_field burst
down_fields (down.AssignOnu onu serial) = onu_field onu ++ serial_field serial
down_fields (down.RangingTime onu eqd) = onu_field onu ++ number_field (codes "eqd") eqd
down_fields (down.Deactivate onu) = onu_field onu
down_fields (down.DisableSerial serial) = serial_field serial
down_fields (down.EnableSerial serial) = serial_field serial
down_fields down.EnableAll = []
down_fields (down.AssignAlloc onu alloc keep) =
    onu_field onu ++ number_field (codes "alloc") alloc ++ (key_text (codes "keep") ++ truth keep)
down_fields down.NoMessage = []
down_fields (down.Popup onu) = onu_field onu
down_fields (down.Other id octet1 body) = other_fields id octet1 body

-- the name of a message of a unit
abbrev pub up_name : Up → List ℕ
up_name (up.SerialNumber onu serial random flags) = codes "Serial_Number_ONU"
up_name (up.DyingGasp onu) = codes "Dying_Gasp"
up_name (up.NoMessage onu) = codes "No_message"
up_name (up.Acknowledge onu id copy) = codes "Acknowledge"
up_name (up.Other id octet1 body) = name_or_other (other_name true id)

-- its fields; the copy in an Acknowledge is left out
abbrev pub up_fields : Up → List ℕ
up_fields (up.SerialNumber onu serial random flags) =
    onu_field onu ++ serial_field serial ++ number_field (codes "random") random ++ number_field (codes "flags") flags
up_fields (up.DyingGasp onu) = onu_field onu
up_fields (up.NoMessage onu) = onu_field onu
up_fields (up.Acknowledge onu id copy) = onu_field onu ++ number_field (codes "id") id
up_fields (up.Other id octet1 body) = other_fields id octet1 body

-- an object of this name with these fields
abbrev pub named_object : List ℕ → List ℕ → List ℕ
named_object name fields = codes "{\"name\":\"" ++ name ++ codes "\"" ++ fields ++ codes "}"

abbrev pub down_object : Down → List ℕ
down_object message = named_object (down_name message) (down_fields message)

abbrev pub up_object : Up → List ℕ
up_object message = named_object (up_name message) (up_fields message)
