-- The fields of a line of a trace (this profile's own rule).
use Rattle.std.specs.Prelude.{◌≡◌, ◌⊎◌, ℕ, Bool, true, false, List, [], ◌∷◌, ◌++◌, Ok, codes}
use Rattle.hex.specs.Hex.{decode_sized}
use Rattle.gp_ploam.specs.declared.check.Mask.{Mask}
use Rattle.gp_ploam.specs.declared.message.Down.{Down}
use Rattle.gp_ploam.specs.declared.message.Up.{Up}
use Rattle.gp_ploam.specs.Down.{ReadsDown}
use Rattle.gp_ploam.specs.Mask.{mask_value}
use Rattle.gp_ploam.specs.Up.{ReadsUp}
use Rattle.gp_decode.specs.Line.{HasWords, HasWrongCheck}
use Rattle.gp_json.specs.declared.slot.Slot.{Slot}
use Rattle.gp_json.specs.declared.slot.Slot.TheVariants as slots
use Rattle.gp_json.specs.declared.slot.Kind.{Kind}
use Rattle.gp_json.specs.declared.slot.Kind.TheVariants as kinds
use Rattle.gp_json.specs.Allocs.{alloc_list}
use Rattle.gp_json.specs.Message.{down_object, up_object}
use Rattle.gp_json.specs.Slots.{key_of, kind_of, may_end, slot_after}
use Rattle.gp_json.specs.Spelling.{is_number, quoted}

-- what stands before a field: a comma, but not before the first
abbrev pub comma_before : Slot → List ℕ
comma_before slots.Port = []
comma_before _ = codes ","

-- the name of a field
abbrev pub opening : Slot → List ℕ
opening slot = comma_before slot ++ codes "\"" ++ key_of slot ++ codes "\":"

-- the message of a code: its words, or nothing where the check octet is wrong
abbrev pub TellsMessage : Bool → Mask → List ℕ → List ℕ → Type 0
TellsMessage upstream mask octets said =
    ((words : List ℕ) × HasWords upstream mask octets words × (said ≡ quoted words))
    ⊎ (HasWrongCheck mask octets × (said ≡ codes "null"))

-- its name
abbrev pub message_opening : Bool → List ℕ
message_opening true = codes ",\"message\":"
message_opening false = codes ",\"sent_message\":"

-- the object of the message that a code is read as
abbrev pub HasObject : Bool → Mask → List ℕ → List ℕ → Type 0
HasObject true mask octets said = (m : Up) × ReadsUp octets (mask_value mask) m × (said ≡ up_object m)
HasObject false mask octets said = (m : Down) × ReadsDown octets (mask_value mask) m × (said ≡ down_object m)

-- the same, or nothing where the check octet is wrong
abbrev pub TellsFields : Bool → Mask → List ℕ → List ℕ → Type 0
TellsFields upstream mask octets said =
    HasObject upstream mask octets said ⊎ (HasWrongCheck mask octets × (said ≡ codes "null"))

-- its name
abbrev pub fields_opening : Bool → List ℕ
fields_opening true = codes ",\"message_fields\":"
fields_opening false = codes ",\"sent_fields\":"

-- a code of thirteen octets, as the line spells it, its message, and the object of that
abbrev pub TellsCode : Bool → Mask → Slot → List ℕ → List ℕ → Type 0
TellsCode upstream mask slot part said =
    (octets message fields : List ℕ) × (decode_sized part 13 ≡ Ok octets) × TellsMessage upstream mask octets message
    × TellsFields upstream mask octets fields
    × (said ≡ opening slot ++ quoted part ++ message_opening upstream ++ message ++ fields_opening upstream ++ fields)

-- Alloc-IDs, as the line spells them, and their list
abbrev pub allocs_field : Slot → List ℕ → List ℕ
allocs_field slot part = opening slot ++ quoted part ++ codes ",\"alloc_list\":" ++ alloc_list part

-- a part, by what it is told as
abbrev pub TellsAs : Kind → Mask → Slot → List ℕ → List ℕ → Type 0
TellsAs kinds.Number mask slot part said = (is_number part ≡ true) × (said ≡ opening slot ++ part)
TellsAs kinds.Text mask slot part said = said ≡ opening slot ++ quoted part
TellsAs kinds.UnitCode mask slot part said = TellsCode true mask slot part said
TellsAs kinds.TerminalCode mask slot part said = TellsCode false mask slot part said
TellsAs kinds.Allocs mask slot part said = said ≡ allocs_field slot part
TellsAs kinds.Silent mask slot part said = said ≡ []
TellsAs kinds.Unknown mask slot part said = ⊥

-- a part that stands there
abbrev pub TellsPart : Mask → Slot → List ℕ → List ℕ → Type 0
TellsPart mask slot part said = TellsAs (kind_of slot) mask slot part said

-- parts one after another, the first of which stands there
abbrev pub TellsParts : Mask → Slot → List (List ℕ) → List ℕ → Type 0
TellsParts mask slot [] said = (may_end slot ≡ true) × (said ≡ [])
TellsParts mask slot (part ∷ parts) said =
    (first rest : List ℕ) × TellsPart mask slot part first × TellsParts mask (slot_after slot part) parts rest
    × (said ≡ first ++ rest)
