-- Parts of a text (this profile's own rule).
use Rattle.std.specs.Prelude.{ℕ, ◌-◌, ◌==◌, ◌&&◌, ◌||◌, Bool, true, false, not, List, [], ◌∷◌, length, take, if◌then◌else◌, codes, map}
use Rattle.std.specs.Char.{is_ascii_digit, is_ascii_whitespace, to_ascii_lowercase}
use Rattle.std.specs.List.{list_all, suffix_len}
use Rattle.std.specs.Str.{bytes_eq}

-- what stands before the first octet of this kind, and what stands from there on
abbrev pub before : (ℕ → Bool) → List ℕ → List ℕ
before is [] = []
before is (octet ∷ text) = if is octet then [] else octet ∷ before is text

abbrev pub «from» : (ℕ → Bool) → List ℕ → List ℕ
«from» is [] = []
«from» is (octet ∷ text) = if is octet then octet ∷ text else «from» is text

abbrev pub is_nothing : List ℕ → Bool
is_nothing [] = true
is_nothing (octet ∷ text) = false

-- a text without the spaces in front
abbrev pub is_no_space : ℕ → Bool
is_no_space octet = not (octet == 32)

unfoldable pub trimmed : List ℕ → List ℕ
trimmed text = «from» is_no_space text

-- a text without the white space at its end
unfoldable pub trimmed_end : List ℕ → List ℕ
trimmed_end text = take (length text - suffix_len is_ascii_whitespace text) text

-- what parts the fields of a line without columns: a space, a tab, a comma, a semicolon
abbrev pub is_separator : ℕ → Bool
is_separator octet = (octet == 32) || (octet == 9) || (octet == 44) || (octet == 59)

abbrev pub is_of_word : ℕ → Bool
is_of_word octet = not (is_separator octet)

-- a text that is one field of such a line
abbrev pub is_word : List ℕ → Bool
is_word text = not (is_nothing text) && list_all is_of_word text

-- a number without a unit: digits and points
abbrev pub is_of_number : ℕ → Bool
is_of_number octet = is_ascii_digit octet || (octet == 46)

abbrev pub is_bare : List ℕ → Bool
is_bare text = not (is_nothing text) && list_all is_of_number text

-- a word, whatever the case of its letters
abbrev pub is_spelled : List ℕ → List ℕ → Bool
is_spelled word other = bytes_eq (map to_ascii_lowercase word) (map to_ascii_lowercase other)

-- of the line terminal
abbrev pub is_down : List ℕ → Bool
is_down word =
    is_spelled word (codes "down") || is_spelled word (codes "ds") || is_spelled word (codes "d")
    || is_spelled word (codes "downstream")

-- of a unit
abbrev pub is_up : List ℕ → Bool
is_up word =
    is_spelled word (codes "up") || is_spelled word (codes "us") || is_spelled word (codes "u")
    || is_spelled word (codes "upstream")

abbrev pub is_grant : List ℕ → Bool
is_grant word = is_spelled word (codes "grant")

-- the word behind the time of a line
abbrev pub is_direction : List ℕ → Bool
is_direction word = is_down word || is_up word || is_grant word
