-- What the hexadecimal digits of a code are decoded to, and what is wrong with a text that they aren't (this
-- profile's own rule).
use Rattle.std.specs.Prelude.{◌≡◌, ◌≢◌, ℕ, ◌%◌, Bool, true, false, List, ◌++◌, length, codes, ◌⊎◌, Ok}
use Rattle.std.specs.List.{list_all}
use Rattle.hex.specs.Hex.{decode_of, is_hex_digit}
use Rattle.gp_ploam.specs.declared.message.Down.{Down}
use Rattle.gp_ploam.specs.declared.message.Up.{Up}
use Rattle.gp_ploam.specs.declared.check.Mask.{Mask}
use Rattle.gp_ploam.specs.Mask.{mask_value}
use Rattle.gp_ploam.specs.Row.{HasRightCheck}
use Rattle.gp_ploam.specs.Down.{ReadsDown}
use Rattle.gp_ploam.specs.Up.{ReadsUp}
use Rattle.gp_decode.specs.declared.fault.DecodeFault.{DecodeFault}
use Rattle.gp_decode.specs.declared.fault.DecodeFault.TheVariants as fault
use Rattle.gp_decode.specs.Message.{down_words, up_words}

-- the words of the message that a code is read as, with names of the standard or without: upstream or downstream, under
-- the mask
abbrev pub HasWordsIn : Bool → Bool → Mask → List ℕ → List ℕ → Type 0
HasWordsIn names true mask code words = (m : Up) × ReadsUp code (mask_value mask) m × (words ≡ up_words names m)
HasWordsIn names false mask code words = (m : Down) × ReadsDown code (mask_value mask) m × (words ≡ down_words names m)

-- the same without
abbrev pub HasWords : Bool → Mask → List ℕ → List ℕ → Type 0
HasWords upstream mask code words = HasWordsIn false upstream mask code words

-- the line says these words, and ends behind them
abbrev pub SaysCode : Bool → Bool → Mask → List ℕ → List ℕ → Type 0
SaysCode names upstream mask code line =
    (words : List ℕ) × HasWordsIn names upstream mask code words × (line ≡ words ++ codes "\n")

-- the text is the hexadecimal digits of a code, and the line says the message that this is read as, with names of the
-- standard or without
pub record SaysIn (names upstream : Bool) (mask : Mask) (text line : List ℕ) : Type 0 where
  pub code : List ℕ
  pub spelled : decode_of text ≡ Ok code
  pub said : SaysCode names upstream mask code line

-- the same without
abbrev pub Says : Bool → Mask → List ℕ → List ℕ → Type 0
Says upstream mask text line = SaysIn false upstream mask text line

-- thirteen octets of which the last is not the check octet of the others under the mask
abbrev pub HasWrongCheck : Mask → List ℕ → Type 0
HasWrongCheck mask code = HasRightCheck code (mask_value mask) → ⊥

-- the first fault of a text: an odd number of bytes, then a byte that is no hexadecimal digit, then another number of
-- octets than thirteen, then a check octet that is wrong. Memory, the writer and what a line says of the direction are
-- no matter of the text
abbrev pub HasDecodeFault : Mask → List ℕ → DecodeFault → Type 0
HasDecodeFault mask text fault.Length =
    (length text % 2 ≡ 1) ⊎ ((length text % 2 ≡ 0) × (list_all is_hex_digit text ≡ true) × (length text ≢ 26))
HasDecodeFault mask text fault.Digit = (length text % 2 ≡ 0) × (list_all is_hex_digit text ≡ false)
HasDecodeFault mask text fault.Crc =
    (code : List ℕ) × (decode_of text ≡ Ok code) × (length code ≡ 13) × HasWrongCheck mask code
HasDecodeFault mask text fault.OutOfMemory = ⊥
HasDecodeFault mask text fault.Write = ⊥
HasDecodeFault mask text fault.Direction = ⊥

-- the fault is the text's own, and no matter of memory, of the writer, or of what a line says of the direction
abbrev pub IsOfText : DecodeFault → Type 0
IsOfText fault.OutOfMemory = ⊥
IsOfText fault.Write = ⊥
IsOfText fault.Direction = ⊥
IsOfText _ = Unit {0}

-- the fault is seen in the text alone, before its octets are looked at
abbrev pub IsOfSpelling : DecodeFault → Type 0
IsOfSpelling fault.Length = Unit {0}
IsOfSpelling fault.Digit = Unit {0}
IsOfSpelling _ = ⊥

-- why there is no line for a text: out of memory for the line that it says, or the text's own fault
abbrev pub LacksLine : Bool → Mask → List ℕ → DecodeFault → Type 0
LacksLine upstream mask text fault.OutOfMemory = (line : List ℕ) × Says upstream mask text line
LacksLine upstream mask text own = HasDecodeFault mask text own

-- why there are no words for thirteen octets: out of memory for those that they have, or a check octet that is wrong
abbrev pub LacksWords : Bool → Mask → List ℕ → DecodeFault → Type 0
LacksWords upstream mask code fault.OutOfMemory = (words : List ℕ) × HasWords upstream mask code words
LacksWords upstream mask code fault.Crc = HasWrongCheck mask code
LacksWords upstream mask code _ = ⊥
