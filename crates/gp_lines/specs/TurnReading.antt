-- What is read from a line that asks for something, or its first fault (this profile's own rule).
use Rattle.std.specs.Prelude.{ℕ, Bool, true, false, List, [], ◌∷◌, length, Option, None, Some, Result, Ok, Err, if◌then◌else◌, nat_le, codes}
use Rattle.std.specs.Str.{bytes_eq}
use Rattle.gp_ploam.specs.declared.check.Mask.{Mask}
use Rattle.gp_ranging.specs.declared.grant.Grant.{Grant}
use Rattle.gp_ranging.specs.declared.grant.Grant.TheVariants as grants
use Rattle.gp_flow.specs.Lines.{longest_line}
use Rattle.gp_lines.specs.declared.fault.LineFault.{LineFault}
use Rattle.gp_lines.specs.declared.fault.LineFault.TheVariants as fault
use Rattle.gp_lines.specs.declared.turn.Asked.{Asked}
use Rattle.gp_lines.specs.declared.turn.Asked.TheVariants as asked
use Rattle.gp_lines.specs.declared.word.UnitWord.{UnitWord}
use Rattle.gp_lines.specs.declared.word.UnitWord.TheVariants as words
use Rattle.gp_lines.specs.Parts.{parts_of, has_space_too_many}
use Rattle.gp_lines.specs.Reading.{◌>>=◌, number_in, one_of, two_of, event_of_parts}
use Rattle.gp_lines.specs.SayReading.{say_event}
use Rattle.gp_lines.specs.Spelling.{last_port}
use Rattle.gp_lines.specs.Turn.{without_return, is_remark, asked_of_unit}

-- a number that stands alone
unfoldable pub one_number : ℕ → ℕ → List (List ℕ) → Result ℕ LineFault
one_number low high parts = do
  digits ← one_of parts
  number_in low high digits

-- a grant that names an ONU-ID
unfoldable pub range_grant : List ℕ → Result Grant LineFault
range_grant digits = do
  onu ← number_in 0 253 digits
  Ok (grants.Range onu)

unfoldable pub poll_grant : List ℕ → Result Grant LineFault
poll_grant digits = do
  onu ← number_in 0 253 digits
  Ok (grants.Poll onu)

unfoldable pub onu_grant : List ℕ → List ℕ → Result Grant LineFault
onu_grant word digits =
    if bytes_eq word (codes "range") then range_grant digits
    else if bytes_eq word (codes "poll") then poll_grant digits
    else Err fault.Word

-- the number behind `within`, which isn't looked at yet
unfoldable pub within_of : List (List ℕ) → Result (Option (List ℕ)) LineFault
within_of parts = do
  fields ← two_of parts
  if bytes_eq fields.0 (codes "within") then Ok (Some fields.1) else Err fault.Word

-- the same, if `within` stands there
abbrev pub bound_of : List (List ℕ) → Result (Option (List ℕ)) LineFault
bound_of [] = Ok None
bound_of (word ∷ others) = within_of (word ∷ others)

-- at most so many frames
abbrev pub most_of : Option (List ℕ) → Result ℕ LineFault
most_of None = Ok 1000000
most_of (Some digits) = number_in 1 1000000 digits

-- so many frames
unfoldable pub frames_turn : ℕ → List (List ℕ) → Result Asked LineFault
frames_turn port parts = do
  count ← one_number 1 1000000 parts
  Ok (asked.Frames port count)

-- frames up to a search window, by the parts behind its word
unfoldable pub search_turn : ℕ → List (List ℕ) → Result Asked LineFault
search_turn port behind = do
  bound ← bound_of behind
  most ← most_of bound
  Ok (asked.Until port grants.Search most)

-- frames up to a grant that names an ONU-ID, by its word, its number, and the parts behind that
unfoldable pub onu_turn : ℕ → List ℕ → List ℕ → List (List ℕ) → Result Asked LineFault
onu_turn port word digits behind = do
  bound ← bound_of behind
  grant ← onu_grant word digits
  most ← most_of bound
  Ok (asked.Until port grant most)

abbrev pub named_turn : ℕ → List ℕ → List (List ℕ) → Result Asked LineFault
named_turn port word [] = Err fault.Word
named_turn port word (digits ∷ behind) = onu_turn port word digits behind

-- frames up to a grant, by its word and the parts behind that
unfoldable pub grant_turn : ℕ → List ℕ → List (List ℕ) → Result Asked LineFault
grant_turn port word parts =
    if bytes_eq word (codes "search") then search_turn port parts else named_turn port word parts

-- frames up to a grant
abbrev pub until_turn : ℕ → List (List ℕ) → Result Asked LineFault
until_turn port [] = Err fault.Word
until_turn port (word ∷ parts) = grant_turn port word parts

-- an event, once
unfoldable pub event_turn : ℕ → List (List ℕ) → Result Asked LineFault
event_turn port parts = do
  event ← event_of_parts parts
  Ok (asked.Event port event)

-- what a unit says, as the burst that it is
unfoldable pub say_turn : Mask → ℕ → List (List ℕ) → Result Asked LineFault
say_turn mask port parts = do
  event ← say_event mask parts
  Ok (asked.Event port event)

-- what a word asks a port for, with the parts behind it
unfoldable pub worded_turn : Mask → ℕ → List ℕ → List (List ℕ) → Result Asked LineFault
worded_turn mask port word parts =
    if bytes_eq word (codes "frame") then frames_turn port parts
    else if bytes_eq word (codes "until") then until_turn port parts
    else if bytes_eq word (codes "say") then say_turn mask port parts
    else event_turn port (word ∷ parts)

-- what a port is asked for
abbrev pub behind_turn : Mask → ℕ → List (List ℕ) → Result Asked LineFault
behind_turn mask port [] = Err fault.Word
behind_turn mask port (word ∷ []) = event_turn port (word ∷ [])
behind_turn mask port (word ∷ next ∷ others) = worded_turn mask port word (next ∷ others)

-- a port, and what it is asked for
unfoldable pub port_turn : Mask → List ℕ → List (List ℕ) → Result Asked LineFault
port_turn mask digits parts = do
  port ← number_in 0 last_port digits
  behind_turn mask port parts

-- what is asked of a unit
unfoldable pub unit_word_of : List ℕ → Result UnitWord LineFault
unit_word_of word =
    if bytes_eq word (codes "light") then Ok words.Light
    else if bytes_eq word (codes "dark") then Ok words.Dark
    else if bytes_eq word (codes "show") then Ok words.Show
    else Err fault.Word

-- that of the unit at a place
unfoldable pub unit_turn : List (List ℕ) → Result Asked LineFault
unit_turn parts = do
  fields ← two_of parts
  word ← unit_word_of fields.1
  unit ← number_in 0 1023 fields.0
  Ok (asked_of_unit unit word)

-- what begins with a unit or a port
unfoldable pub begun_turn : Mask → List ℕ → List (List ℕ) → Result Asked LineFault
begun_turn mask first parts = if bytes_eq first (codes "unit") then unit_turn parts else port_turn mask first parts

abbrev pub turn_of_parts : Mask → List (List ℕ) → Result Asked LineFault
turn_of_parts mask [] = Err fault.Word
turn_of_parts mask (first ∷ []) = Err fault.Word
turn_of_parts mask (first ∷ second ∷ others) = begun_turn mask first (second ∷ others)

-- with one space between parts
unfoldable pub spaced_turn : Mask → List (List ℕ) → Result Asked LineFault
spaced_turn mask parts = if has_space_too_many parts then Err fault.Space else turn_of_parts mask parts

-- what a text asks for
abbrev pub asked_of : Mask → List ℕ → Result Asked LineFault
asked_of mask text = if is_remark text then Ok asked.Nothing else spaced_turn mask (parts_of text)

-- what a line asks for
abbrev pub turn_of : Mask → List ℕ → Result Asked LineFault
turn_of mask line = if nat_le (length line) longest_line then asked_of mask (without_return line) else Err fault.Long
