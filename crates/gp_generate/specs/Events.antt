-- The table of an event: its keys with their values, by its form (this profile's own rule).
use Rattle.std.specs.Prelude.{ℕ, List, [], ◌∷◌, ◌++◌, codes}
use Rattle.hex.specs.Hex.{encode_lower}
use Rattle.gp_ploam.specs.declared.message.Serial.{Serial}
use Rattle.gp_serial.specs.Spelling.{text_of_serial}
use Rattle.gp_machine.specs.declared.event.Command.{Command}
use Rattle.gp_machine.specs.declared.event.Command.TheVariants as commands
use Rattle.gp_machine.specs.Words.{command_word}
use Rattle.gp_generate.specs.declared.event.Event.{Event}
use Rattle.gp_generate.specs.declared.event.Event.TheVariants as events
use Rattle.gp_generate.specs.declared.event.Said.{Said}
use Rattle.gp_generate.specs.declared.event.Said.TheVariants as says
use Rattle.gp_generate.specs.Fields.{Field, number, text, truth, line_of, lines_of}

abbrev pub serial_field : Serial → Field
serial_field serial = text (codes "serial") (text_of_serial serial)

abbrev pub about_unit : Serial → List Field
about_unit serial = serial_field serial ∷ []

abbrev pub about_alloc : Serial → ℕ → List Field
about_alloc serial alloc = serial_field serial ∷ number (codes "alloc") alloc ∷ []

-- what a command is about
abbrev pub about_fields : Command → List Field
about_fields commands.Search = []
about_fields commands.EnableAll = []
about_fields commands.PopupAll = []
about_fields (commands.Alloc serial) = about_unit serial
about_fields (commands.Dealloc serial alloc) = about_alloc serial alloc
about_fields (commands.Deactivate serial) = about_unit serial
about_fields (commands.Disable serial) = about_unit serial
about_fields (commands.Enable serial) = about_unit serial
about_fields (commands.Popup serial) = about_unit serial
about_fields (commands.Show serial) = about_unit serial

abbrev pub says_serial : Serial → ℕ → List Field
says_serial serial onu = text (codes "say") (codes "serial") ∷ serial_field serial ∷ number (codes "onu") onu ∷ []

abbrev pub says_word : List ℕ → ℕ → List Field
says_word word onu = text (codes "say") word ∷ number (codes "onu") onu ∷ []

abbrev pub says_ack : ℕ → ℕ → List Field
says_ack onu id = text (codes "say") (codes "ack") ∷ number (codes "onu") onu ∷ number (codes "id") id ∷ []

-- what a unit says
abbrev pub said_fields : Said → List Field
said_fields (says.Serial serial onu) = says_serial serial onu
said_fields (says.Gasp onu) = says_word (codes "gasp") onu
said_fields (says.Nothing onu) = says_word (codes "none") onu
said_fields (says.Ack onu id) = says_ack onu id

-- the keys of an event
abbrev pub event_fields : Event → List Field
event_fields (events.Frames port count) = number (codes "port") port ∷ number (codes "frames") count ∷ []
event_fields (events.Burst port at code) =
    number (codes "port") port ∷ number (codes "at") at ∷ text (codes "burst") (encode_lower code) ∷ []
event_fields (events.Say port at said) = number (codes "port") port ∷ number (codes "at") at ∷ said_fields said
event_fields (events.Command port command) =
    number (codes "port") port ∷ text (codes "command") (command_word command) ∷ about_fields command
event_fields (events.Light unit lit) = number (codes "unit") unit ∷ truth (codes "light") lit ∷ []

-- how an event at a port begins
abbrev pub at_port : ℕ → List ℕ
at_port port = codes "[[event]]\n" ++ line_of (number (codes "port") port)

-- an event
abbrev pub event_text : Event → List ℕ
event_text event = codes "[[event]]\n" ++ lines_of (event_fields event)
