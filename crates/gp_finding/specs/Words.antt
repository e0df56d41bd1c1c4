-- What is told of what was said: its words, and the unit that it names (this profile's own rule).
use Rattle.std.specs.Prelude.{ℕ, Bool, true, false, List, [], Option, None, Some, option_map}
use Rattle.std.specs.FinMap.{get}
use Rattle.hex.specs.Hex.{encode_lower}
use Rattle.gp_ploam.specs.declared.check.Mask.{Mask}
use Rattle.gp_ploam.specs.declared.message.Serial.{Serial}
use Rattle.gp_ploam.specs.declared.message.Down.{Down}
use Rattle.gp_ploam.specs.declared.message.Down.TheVariants as down
use Rattle.gp_ploam.specs.declared.message.Up.{Up}
use Rattle.gp_ploam.specs.declared.message.Up.TheVariants as up
use Rattle.gp_ploam.specs.Up.{octet1_of}
use Rattle.gp_ranging.specs.declared.grant.Grant.{Grant}
use Rattle.gp_ranging.specs.declared.grant.Grant.TheVariants as grants
use Rattle.gp_decode.specs.Message.{down_text, up_text}
use Rattle.gp_observer.specs.Watch.{Watch}
use Rattle.gp_observer.specs.Heard.{Heard, HeardDown, HeardUp, HeardGrant}
use Rattle.gp_log.specs.Text.{grant_text}
use Rattle.gp_log.specs.declared.said.Said.{Said}
use Rattle.gp_log.specs.declared.said.Said.TheVariants as said
use Rattle.gp_finding.specs.Hearing.{down_in, up_in}

-- the digits of a code; a grant has none
abbrev pub digits_of : Said → List ℕ
digits_of (said.Down code) = encode_lower code
digits_of (said.Up code delay) = encode_lower code
digits_of (said.Grant grant) = []

-- a message in the words of `gp_decode`, a grant as a line of a log has it; None where the check octet is wrong
abbrev pub words_of : Heard → Option (List ℕ)
words_of (HeardDown message) = option_map down_text message
words_of (HeardUp message delay) = option_map up_text message
words_of (HeardGrant grant) = Some (grant_text grant)

-- the words, or where there are none the digits
abbrev pub words_or : List ℕ → Option (List ℕ) → List ℕ
words_or digits None = digits
words_or digits (Some words) = words

-- what is told of what was said, which is heard as this
abbrev pub said_text : Said → Heard → List ℕ
said_text said heard = words_or (digits_of said) (words_of heard)

-- the words of a code, upstream or downstream
abbrev pub code_words : Bool → Mask → List ℕ → Option (List ℕ)
code_words true mask code = option_map up_text (up_in mask code)
code_words false mask code = option_map down_text (down_in mask code)

-- ---- the ONU-ID that is named

abbrev pub onu_down : Down → Option ℕ
onu_down (down.AssignOnu onu serial) = Some onu
onu_down (down.RangingTime onu eqd) = Some onu
onu_down (down.Deactivate onu) = Some onu
onu_down (down.AssignAlloc onu alloc keep) = Some onu
onu_down (down.Popup onu) = Some onu
onu_down (down.Other id octet1 body) = Some octet1
onu_down _ = None

abbrev pub onu_granted : Grant → Option ℕ
onu_granted grants.Search = None
onu_granted (grants.Range onu) = Some onu
onu_granted (grants.Poll onu) = Some onu

abbrev pub onu_in : Heard → Option ℕ
onu_in (HeardDown None) = None
onu_in (HeardDown (Some message)) = onu_down message
onu_in (HeardUp message delay) = option_map octet1_of message
onu_in (HeardGrant grant) = onu_granted grant

-- ---- the serial number that is named

abbrev pub serial_down : Down → Option Serial
serial_down (down.AssignOnu onu serial) = Some serial
serial_down (down.DisableSerial serial) = Some serial
serial_down (down.EnableSerial serial) = Some serial
serial_down _ = None

abbrev pub serial_up : Up → Option Serial
serial_up (up.SerialNumber onu serial random flags) = Some serial
serial_up _ = None

abbrev pub serial_in : Heard → Option Serial
serial_in (HeardDown (Some message)) = serial_down message
serial_in (HeardUp (Some message) delay) = serial_up message
serial_in _ = None

-- the one that is named, or else the holder of the ONU-ID that is named
abbrev pub holder_in : Watch → Option ℕ → Option Serial
holder_in watch None = None
holder_in watch (Some onu) = get watch.seen.holder onu

abbrev pub serial_or_holder : Watch → Option Serial → Option ℕ → Option Serial
serial_or_holder watch (Some serial) onu = Some serial
serial_or_holder watch None onu = holder_in watch onu

abbrev pub serial_told : Watch → Heard → Option Serial
serial_told watch heard = serial_or_holder watch (serial_in heard) (onu_in heard)
