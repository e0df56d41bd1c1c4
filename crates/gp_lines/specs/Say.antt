-- What a unit says, in the words of a line: a burst of its message (this profile's own rule; G.984.3, clause 9).
use Rattle.std.specs.Prelude.{◌≡◌, ℕ, ◌≤◌, List, [], ◌∷◌, ◌++◌, Option, None, Some, codes, replicate}
use Rattle.gp_ploam.specs.declared.check.Mask.{Mask}
use Rattle.gp_ploam.specs.declared.message.Serial.{Serial}
use Rattle.gp_ploam.specs.declared.message.Up.{Up}
use Rattle.gp_ploam.specs.declared.message.Up.TheVariants.{SerialNumber, DyingGasp, NoMessage, Acknowledge}
use Rattle.gp_ploam.specs.Mask.{mask_value}
use Rattle.gp_ploam.specs.Up.{code_of_up}
use Rattle.gp_serial.specs.Spelling.{Spells}
use Rattle.gp_machine.specs.declared.event.Event.{Event}
use Rattle.gp_machine.specs.declared.event.Event.TheVariants as events
use Rattle.gp_lines.specs.declared.say.OnuSaying.{OnuSaying}
use Rattle.gp_lines.specs.declared.say.OnuSaying.TheVariants as saying
use Rattle.gp_lines.specs.Spelling.{SpellsNumber}

-- the greatest round-trip delay
abbrev pub last_delay : ℕ
last_delay = 4294967295

-- the words of what is said, with the texts of its fields, of which some may be left out
pub data SayForm : Type 0 where
  OfSerial : (serial : List ℕ) (onu at : Option (List ℕ)) → SayForm
  OfOnu : (says : OnuSaying) (onu : List ℕ) (at : Option (List ℕ)) → SayForm
  Ack : (onu id : List ℕ) (at : Option (List ℕ)) → SayForm

-- a field that may be left out: its word and its text
abbrev pub field_parts : List ℕ → Option (List ℕ) → List (List ℕ)
field_parts word None = []
field_parts word (Some digits) = word ∷ digits ∷ []

-- the word of what a unit says that its ONU-ID says whole
abbrev pub saying_word : OnuSaying → List ℕ
saying_word saying.Gasp = codes "gasp"
saying_word saying.Silence = codes "none"

-- the parts behind `say`
abbrev pub form_parts : SayForm → List (List ℕ)
form_parts (OfSerial serial onu at) =
    codes "serial" ∷ serial ∷ (field_parts (codes "onu") onu ++ field_parts (codes "at") at)
form_parts (OfOnu says onu at) = saying_word says ∷ codes "onu" ∷ onu ∷ field_parts (codes "at") at
form_parts (Ack onu id at) = codes "ack" ∷ codes "onu" ∷ onu ∷ codes "id" ∷ id ∷ field_parts (codes "at") at

-- the message with this ONU-ID
abbrev pub onu_message : OnuSaying → ℕ → Up
onu_message saying.Gasp onu = DyingGasp onu
onu_message saying.Silence onu = NoMessage onu

-- a message that arrives, encoded with the mask, with this round-trip delay
abbrev pub said : Mask → ℕ → Up → Event
said mask at message = events.Burst at (code_of_up message (mask_value mask))

-- the number of an octet
abbrev pub SpellsOctet : List ℕ → ℕ → Type 0
SpellsOctet digits octet = SpellsNumber digits octet × (octet ≤ 255)

-- the number of a field, or the one that is meant where the field is left out
abbrev pub SpellsField : ℕ → ℕ → Option (List ℕ) → ℕ → Type 0
SpellsField meant high None number = number ≡ meant
SpellsField meant high (Some digits) number = SpellsNumber digits number × (number ≤ high)

-- the burst of these words: without `onu` a unit that says its serial number has no ONU-ID, which is 255; without `at`
-- the delay is 0; the random delay and the flags are 0, and so is the copy of an Acknowledge
abbrev pub SpellsForm : Mask → SayForm → Event → Type 0
SpellsForm mask (OfSerial text onu_text at_text) event =
    (serial : Serial) × (onu at : ℕ) × Spells text serial × SpellsField 255 255 onu_text onu
    × SpellsField 0 last_delay at_text at × (event ≡ said mask at (SerialNumber onu serial 0 0))
SpellsForm mask (OfOnu says onu_text at_text) event =
    (onu at : ℕ) × SpellsOctet onu_text onu × SpellsField 0 last_delay at_text at
    × (event ≡ said mask at (onu_message says onu))
SpellsForm mask (Ack onu_text id_text at_text) event =
    (onu id at : ℕ) × SpellsOctet onu_text onu × SpellsOctet id_text id × SpellsField 0 last_delay at_text at
    × (event ≡ said mask at (Acknowledge onu id (replicate 9 0)))

-- the parts behind a port say this: `say`, and what is said
abbrev pub SpellsSaid : Mask → List (List ℕ) → Event → Type 0
SpellsSaid mask parts event =
    (form : SayForm) × (parts ≡ codes "say" ∷ form_parts form) × SpellsForm mask form event
