-- The line of a script where a mistake stands, counted from 1: the one with its key, else the header of its table (this
-- profile's own rule).
use Rattle.std.specs.Prelude.{ℕ, ◌+◌, ◌-◌, ◌==◌, ◌&&◌, ◌||◌, not, nat_eq, Bool, true, false, List, [], ◌∷◌, Option, Some, None, if◌then◌else◌, codes, drop, length, unwrap_or}
use Rattle.std.specs.List.{list_any, starts_with}
use Rattle.std.specs.Option.{option_map}
use Rattle.std.specs.Str.{is_utf8}
use Rattle.std.specs.Str.Lines.{lines}
use Rattle.gp_script.specs.declared.place.Spot.{Spot}
use Rattle.gp_script.specs.declared.place.Spot.TheVariants as spots
use Rattle.gp_script.specs.declared.place.TablePlace.{TablePlace}
use Rattle.gp_script.specs.declared.place.TablePlace.TheVariants as places
use Rattle.gp_script.specs.Mistake.{MistakeView, TableMistakeView, inside, key_name, no_text, no_toml, unknown_key, unmet}
use Rattle.gp_check.specs.Words.{is_top}

-- a space or a tab
abbrev pub is_blank : ℕ → Bool
is_blank octet = octet == 32 || octet == 9

-- a text without the spaces and tabs at its front
abbrev pub behind_blanks : List ℕ → List ℕ
behind_blanks [] = []
behind_blanks (octet ∷ text) = if is_blank octet then behind_blanks text else octet ∷ text

-- a text begins with this octet
abbrev pub begins_with : ℕ → List ℕ → Bool
begins_with octet [] = false
begins_with octet (first ∷ text) = first == octet

-- nothing stands there but a remark, if that
abbrev pub is_remark_at_most : List ℕ → Bool
is_remark_at_most [] = true
is_remark_at_most (first ∷ text) = first == 35

-- a line is this header: spaces and tabs may stand around it, and a remark behind it
abbrev pub is_header : List ℕ → List ℕ → Bool
is_header header line =
    let text = behind_blanks line in
    starts_with nat_eq text header && is_remark_at_most (behind_blanks (drop (length header) text))

-- a line is the header of one of the four lists of tables
abbrev pub is_known_header : List ℕ → Bool
is_known_header line =
    is_header (codes "[[port]]") line || (is_header (codes "[[unit]]") line
    || (is_header (codes "[[lose]]") line || is_header (codes "[[event]]") line))

-- a line begins as a header of a list, but is no such header: its word may be another one, or have quotes or spaces
-- around it
abbrev pub is_odd_header : List ℕ → Bool
is_odd_header line = starts_with nat_eq (behind_blanks line) (codes "[[") && not (is_known_header line)

-- a line gives a value to the key with this name, which stands at its front without quotes
abbrev pub has_key : List ℕ → List ℕ → Bool
has_key name line =
    let text = behind_blanks line in
    starts_with nat_eq text name && begins_with 61 (behind_blanks (drop (length name) text))

-- a text begins with three quotation marks or three apostrophes, behind which a text of several lines may stand
abbrev pub begins_long_text : List ℕ → Bool
begins_long_text (first ∷ second ∷ third ∷ text) = (first == 34 || first == 39) && (first == second && second == third)
begins_long_text _ = false

-- somewhere in a text a text of several lines may begin
abbrev pub has_long_text : List ℕ → Bool
has_long_text [] = false
has_long_text (octet ∷ text) = begins_long_text (octet ∷ text) || has_long_text text

-- the number of the line that is this header and has so many of them before it, in lines of which the first has this
-- number
abbrev pub header_line : List ℕ → ℕ → ℕ → List (List ℕ) → Option ℕ
header_line header place number [] = None
header_line header place number (line ∷ below) =
    if is_header header line
    then (if place == 0 then Some number else header_line header (place - 1) (number + 1) below)
    else header_line header place (number + 1) below

-- the number of the first line with this key, before the first that begins a table, in lines of which the first has
-- this number
abbrev pub key_line : List ℕ → ℕ → List (List ℕ) → Option ℕ
key_line name number [] = None
key_line name number (line ∷ below) =
    if begins_with 91 (behind_blanks line) then None
    else if has_key name line then Some number
    else key_line name (number + 1) below

-- the line of a key of the table whose header is this line: where there is none, the header
abbrev pub line_below : Option (List ℕ) → List (List ℕ) → ℕ → ℕ
line_below None script header = header
line_below (Some name) script header = unwrap_or (key_line name (header + 1) (drop header script)) header

-- the line of a table of a list, or of a key of it
abbrev pub line_in_list : List ℕ → ℕ → Option (List ℕ) → List (List ℕ) → Option ℕ
line_in_list header place key script = option_map (line_below key script) (header_line header place 1 script)

-- a text closes the header of a table with this name: the name stands at its front, and behind it, with spaces and tabs
-- around, this and a remark at most
abbrev pub is_closed : List ℕ → List ℕ → List ℕ → Bool
is_closed name close text = starts_with nat_eq text name && is_header close (drop (length name) text)

-- a line is the header of the table with this name, or of one of a list of tables
abbrev pub is_header_of : List ℕ → List ℕ → Bool
is_header_of name line =
    let text = behind_blanks line in
    if starts_with nat_eq text (codes "[[") then is_closed name (codes "]]") (behind_blanks (drop 2 text))
    else begins_with 91 text && is_closed name (codes "]") (behind_blanks (drop 1 text))

-- the number of the first line that is a header with this name, in lines of which the first has this number
abbrev pub first_header : List ℕ → ℕ → List (List ℕ) → Option ℕ
first_header name number [] = None
first_header name number (line ∷ below) =
    if is_header_of name line then Some number else first_header name (number + 1) below

-- this number, or where there is none the other
abbrev pub or_else : Option ℕ → Option ℕ → Option ℕ
or_else None other = other
or_else (Some number) other = Some number

-- the line of a key of the top: its own, before the first table, or the first header with its name
abbrev pub line_in_top : Option (List ℕ) → List (List ℕ) → Option ℕ
line_in_top None script = None
line_in_top (Some name) script = or_else (key_line name 1 script) (first_header name 1 script)

-- the line of a table, or of a key of it
abbrev pub line_in_table : TablePlace → Option (List ℕ) → List (List ℕ) → Option ℕ
line_in_table places.Top key script = line_in_top key script
line_in_table (places.Port place) key script = line_in_list (codes "[[port]]") place key script
line_in_table (places.Unit place) key script = line_in_list (codes "[[unit]]") place key script
line_in_table (places.Lose place) key script = line_in_list (codes "[[lose]]") place key script
line_in_table (places.Event place) key script = line_in_list (codes "[[event]]") place key script

-- the key of a spot, where it has one; an item of a list of the top is a table of its own
abbrev pub key_of_spot : TablePlace → Spot → Option (List ℕ)
key_of_spot table spots.Table = None
key_of_spot table (spots.Key key) = Some (key_name key)
key_of_spot table (spots.Item key place) = if is_top table then None else Some (key_name key)

-- the key where a mistake in a table stands, where it stands at one
abbrev pub key_of : TablePlace → TableMistakeView → Option (List ℕ)
key_of table (unknown_key name) = Some name
key_of table (unmet spot want) = key_of_spot table spot

-- a line of a text is an odd header
abbrev pub has_odd_header : List ℕ → Bool
has_odd_header text = list_any is_odd_header (lines text)

-- the line of a table, or of a key of it, in a text whose lines tell it: no text in it goes over several of them, and
-- no header is odd, which matters where headers are counted
abbrev pub line_in_text : TablePlace → Option (List ℕ) → List ℕ → Option ℕ
line_in_text table key text =
    if has_long_text text || (not (is_top table) && has_odd_header text) then None
    else line_in_table table key (lines text)

-- the same of bytes, where they are a text
abbrev pub line_in_bytes : TablePlace → Option (List ℕ) → List ℕ → Option ℕ
line_in_bytes table key bytes = if is_utf8 bytes then line_in_text table key bytes else None

-- the line of a mistake, where one is known
abbrev pub line_of_mistake : List ℕ → MistakeView → Option ℕ
line_of_mistake bytes no_text = None
line_of_mistake bytes no_toml = None
line_of_mistake bytes (inside table mistake) = line_in_bytes table (key_of table mistake) bytes
