-- What is said on the fibre, as a line of a log tells it (this profile's own rule).
use Rattle.std.specs.Prelude.{ℕ, ◌||◌, Bool, List, Option, None, Some, Result, Ok, Err, if◌then◌else◌, codes, map}
use Rattle.std.specs.Char.{to_ascii_lowercase}
use Rattle.std.specs.Str.{bytes_eq}
use Rattle.gp_ranging.specs.declared.grant.Grant.{Grant}
use Rattle.gp_ranging.specs.declared.grant.Grant.TheVariants as grants
use Rattle.gp_log.specs.declared.fault.LogFault.{LogFault}
use Rattle.gp_log.specs.declared.fault.LogFault.TheVariants as fault
use Rattle.gp_log.specs.declared.said.Said.{Said}
use Rattle.gp_log.specs.declared.said.Said.TheVariants as said
use Rattle.gp_log.specs.declared.word.Kind.{Kind}
use Rattle.gp_log.specs.declared.word.Kind.TheVariants as kinds
use Rattle.gp_log.specs.Fields.{◌>>=◌, Field, next, is_nothing, alone, number_in}
use Rattle.gp_log.specs.Code.{next_code}

-- a word, whatever the case of its letters
abbrev pub is_spelled : List ℕ → List ℕ → Bool
is_spelled word other = bytes_eq (map to_ascii_lowercase word) (map to_ascii_lowercase other)

-- a message of the line terminal, as analysers name it
abbrev pub is_down : List ℕ → Bool
is_down word =
    is_spelled word (codes "down") || is_spelled word (codes "ds") || is_spelled word (codes "d")
    || is_spelled word (codes "downstream")

-- a message of a unit
abbrev pub is_up : List ℕ → Bool
is_up word =
    is_spelled word (codes "up") || is_spelled word (codes "us") || is_spelled word (codes "u")
    || is_spelled word (codes "upstream")

-- which of the three a word names
unfoldable pub kind_of : List ℕ → Option Kind
kind_of word =
    if is_down word then Some kinds.Down
    else if is_up word then Some kinds.Up
    else if is_spelled word (codes "grant") then Some kinds.Grant
    else None

-- the delay of a burst in a field, if there is one: bit times, below 2 ^ 32
abbrev pub delay_of : List ℕ → Result (Option ℕ) LogFault
delay_of digits =
    if is_nothing digits then Ok None
    else (do
      delay ← number_in fault.Number 4294967295 digits
      Ok (Some delay))

-- a message down: a code
unfoldable pub down_said : List ℕ → Result Said LogFault
down_said text = do
  code ← next_code text
  alone (said.Down code.0) code.1

-- a message up: a code, and a delay where it was measured
unfoldable pub up_said : List ℕ → Result Said LogFault
up_said text = do
  code ← next_code text
  delay ← delay_of (next code.1).0
  alone (said.Up code.0 delay) (next code.1).1

-- an ONU-ID, which is any octet here, and what stands behind it
unfoldable pub next_onu : List ℕ → Result (ℕ × List ℕ) LogFault
next_onu text = do
  onu ← number_in fault.Number 255 (next text).0
  Ok (onu, (next text).1)

-- a grant that names a unit
abbrev pub onu_grant : (ℕ → Grant) → List ℕ → Result (Grant × List ℕ) LogFault
onu_grant named text = do
  onu ← next_onu text
  Ok (named onu.0, onu.1)

-- the grant of a word, and what stands behind it
unfoldable pub word_grant : Field → Result (Grant × List ℕ) LogFault
word_grant word =
    if bytes_eq word.0 (codes "search") then Ok (grants.Search, word.1)
    else if bytes_eq word.0 (codes "range") then onu_grant grants.Range word.1
    else if bytes_eq word.0 (codes "poll") then onu_grant grants.Poll word.1
    else Err fault.Word

-- the grant that is next in a text, and what stands behind it
abbrev pub next_grant : List ℕ → Result (Grant × List ℕ) LogFault
next_grant text = word_grant (next text)

unfoldable pub grant_said : List ℕ → Result Said LogFault
grant_said text = do
  grant ← next_grant text
  alone (said.Grant grant.0) grant.1

-- what stands behind the word
abbrev pub said_of : Kind → List ℕ → Result Said LogFault
said_of kinds.Down text = down_said text
said_of kinds.Up text = up_said text
said_of kinds.Grant text = grant_said text
