-- What is spelled has no space too many.
use Rattle.std.proofs.Common.{◌≡◌, ℕ, Bool, true, false, List, [], ◌∷◌, ◌++◌, Option, None, Some, codes, refl, inl, inr, arith}
use Rattle.gp_ploam.specs.declared.check.Mask.{Mask}
use Rattle.gp_ploam.specs.declared.message.Serial.{Serial}
use Rattle.gp_serial.specs.Spelling.{Spells}
use Rattle.gp_ranging.specs.declared.grant.Grant.{Grant}
use Rattle.gp_ranging.specs.declared.grant.Grant.TheVariants as grants
use Rattle.gp_machine.specs.declared.event.Command.{Command}
use Rattle.gp_machine.specs.declared.event.Command.TheVariants as commands
use Rattle.gp_machine.specs.declared.event.Event.{Event}
use Rattle.gp_machine.specs.declared.event.Event.TheVariants as events
use Rattle.gp_lines.specs.Parts.{is_nothing, has_space_too_many}
use Rattle.gp_lines.specs.Spelling.{SpellsNumber, SpellsCode, SpellsUnit, SpellsCommand, SpellsParts}
use Rattle.gp_lines.specs.declared.say.OnuSaying.TheVariants as saying
use Rattle.gp_lines.specs.Say.{SayForm, OfSerial, OfOnu, Ack, field_parts, form_parts, SpellsField, SpellsForm}
use Rattle.gp_lines.specs.Turn.{TellEvent, SpellsOnu, SpellsGrant, SpellsBound, SpellsPort, light_word}
use Rattle.hex.proofs.HexLemmas.{decode_of-ok}

number_some : (text : List ℕ) (number : ℕ) → SpellsNumber text number → is_nothing text ≡ false
number_some [] number s = absurd (omega (arith, s.0.0))
number_some (octet ∷ rest) number s = refl

serial_some : (text : List ℕ) (serial : Serial) → Spells text serial → is_nothing text ≡ false
serial_some [] serial (inl s) = cc s.long
serial_some [] serial (inr s) = cc s.long
serial_some (octet ∷ rest) serial s = refl

code_some : (text octets : List ℕ) → SpellsCode text octets → is_nothing text ≡ false
code_some [] octets s = let long = (decode_of-ok [] octets s.0).2 in absurd (omega (arith, long, s.1))
code_some (octet ∷ rest) octets s = refl

unit_well : (word : List ℕ) (parts : List (List ℕ)) (serial : Serial) → is_nothing word ≡ false → SpellsUnit word parts serial → has_space_too_many parts ≡ false
unit_well word parts serial some s = rw (s.1, some, serial_some s.0 serial s.2) refl

command_well : (parts : List (List ℕ)) (command : Command) → SpellsCommand parts command → has_space_too_many parts ≡ false
command_well parts commands.Search s = rw s refl
command_well parts (commands.Alloc serial) s = unit_well (codes "alloc") parts serial refl s
command_well parts (commands.Dealloc serial alloc) s = rw (s.2, serial_some s.0 serial s.3, number_some s.1 alloc s.4) refl
command_well parts (commands.Deactivate serial) s = unit_well (codes "deactivate") parts serial refl s
command_well parts (commands.Disable serial) s = unit_well (codes "disable") parts serial refl s
command_well parts (commands.Enable serial) s = unit_well (codes "enable") parts serial refl s
command_well parts commands.EnableAll s = rw s refl
command_well parts (commands.Popup serial) s = unit_well (codes "popup") parts serial refl s
command_well parts commands.PopupAll s = rw s refl
command_well parts (commands.Show serial) s = unit_well (codes "show") parts serial refl s

event_well : (parts : List (List ℕ)) (event : Event) → SpellsParts parts event → has_space_too_many parts ≡ false
event_well parts events.Frame s = rw s refl
event_well parts (events.Burst at octets) s = rw (s.2, number_some s.0 at s.3, code_some s.1 octets s.5) refl
event_well parts (events.Command command) s = command_well parts command s

-- a field that may be left out
field_well : (word : List ℕ) (meant high : ℕ) (digits : Option (List ℕ)) (number : ℕ) (behind : List (List ℕ)) → is_nothing word ≡ false
    → SpellsField meant high digits number → has_space_too_many behind ≡ false → has_space_too_many (field_parts word digits ++ behind) ≡ false
field_well word meant high None number behind some s well = well
field_well word meant high (Some digits) number behind some s well = rw (some, number_some digits number s.0) well

at_well : (digits : Option (List ℕ)) (number : ℕ) → SpellsField 0 4294967295 digits number → has_space_too_many (field_parts (codes "at") digits) ≡ false
at_well None number s = refl
at_well (Some digits) number s = rw (number_some digits number s.0) refl

form_well : (mask : Mask) (form : SayForm) (event : Event) → SpellsForm mask form event → has_space_too_many (form_parts form) ≡ false
form_well mask (OfSerial text onu_text at_text) event (serial, onu, at, spelled, first, second, is) =
    rw (serial_some text serial spelled)
    (field_well (codes "onu") 255 255 onu_text onu (field_parts (codes "at") at_text) refl first (at_well at_text at second))
form_well mask (OfOnu saying.Gasp onu_text at_text) event (onu, at, first, second, is) = rw (number_some onu_text onu first.0) (at_well at_text at second)
form_well mask (OfOnu saying.Silence onu_text at_text) event (onu, at, first, second, is) = rw (number_some onu_text onu first.0) (at_well at_text at second)
form_well mask (Ack onu_text id_text at_text) event (onu, id, at, first, second, third, is) =
    rw (number_some onu_text onu first.0, number_some id_text id second.0) (at_well at_text at third)

pub tell_well : (mask : Mask) (parts : List (List ℕ)) (event : Event) → TellEvent mask parts event → has_space_too_many parts ≡ false
tell_well mask parts event (inl told) = event_well parts event told
tell_well mask parts event (inr (form, are, said)) = rw are (form_well mask form event said)

pub frames_well : (digits : List ℕ) (count : ℕ) → SpellsNumber digits count → has_space_too_many (codes "frame" ∷ digits ∷ []) ≡ false
frames_well digits count s = rw (number_some digits count s) refl

bound_well : (behind : List (List ℕ)) (most : ℕ) → SpellsBound behind most → has_space_too_many behind ≡ false
bound_well behind most (inl s) = rw s.0 refl
bound_well behind most (inr s) = rw (s.1, number_some s.0 most s.2) refl

onu_well : (word : List ℕ) (named behind : List (List ℕ)) (onu : ℕ) → is_nothing word ≡ false → SpellsOnu word named onu → has_space_too_many behind ≡ false
    → has_space_too_many (codes "until" ∷ (named ++ behind)) ≡ false
onu_well word named behind onu some s bound = rw (s.1, some, number_some s.0 onu s.2) bound

grant_well : (named behind : List (List ℕ)) (grant : Grant) → SpellsGrant named grant → has_space_too_many behind ≡ false
    → has_space_too_many (codes "until" ∷ (named ++ behind)) ≡ false
grant_well named behind grants.Search s bound = rw s bound
grant_well named behind (grants.Range onu) s bound = onu_well (codes "range") named behind onu refl s bound
grant_well named behind (grants.Poll onu) s bound = onu_well (codes "poll") named behind onu refl s bound

pub until_well : (named behind : List (List ℕ)) (grant : Grant) (most : ℕ) → SpellsGrant named grant → SpellsBound behind most
    → has_space_too_many (codes "until" ∷ (named ++ behind)) ≡ false
until_well named behind grant most g b = grant_well named behind grant g (bound_well behind most b)

pub port_well : (parts others : List (List ℕ)) (port : ℕ) → SpellsPort parts port others → has_space_too_many others ≡ false → has_space_too_many parts ≡ false
port_well parts others port s well = rw (s.1, number_some s.0 port s.2) well

pub light_well : (digits : List ℕ) (unit : ℕ) (lit : Bool) → SpellsNumber digits unit → has_space_too_many (codes "unit" ∷ digits ∷ light_word lit ∷ []) ≡ false
light_well digits unit true s = rw (number_some digits unit s) refl
light_well digits unit false s = rw (number_some digits unit s) refl

pub show_well : (digits : List ℕ) (unit : ℕ) → SpellsNumber digits unit → has_space_too_many (codes "unit" ∷ digits ∷ codes "show" ∷ []) ≡ false
show_well digits unit s = rw (number_some digits unit s) refl
