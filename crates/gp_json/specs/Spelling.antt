-- How JSON spells texts and numbers (RFC 8259): octets in printable ASCII alone, a text in UTF-8 with its characters.
use Rattle.std.specs.Prelude.{ℕ, ◌+◌, ◌/◌, ◌%◌, ◌==◌, ◌&&◌, ◌||◌, nat_le, nat_lt, not, Bool, true, false, if◌then◌else◌, List, [], ◌∷◌, ◌++◌, codes}
use Rattle.std.specs.List.{flat_map, list_all}

-- a hexadecimal digit, in lower case
abbrev pub hex_digit : ℕ → ℕ
hex_digit n = if nat_lt n 10 then 48 + n else 87 + n

-- an octet within a text: a quotation mark and a backslash behind a backslash, other printable octets as they are, and
-- the rest by their numbers
abbrev pub escaped : ℕ → List ℕ
escaped octet =
    if octet == 34 || octet == 92 then 92 ∷ octet ∷ []
    else if nat_le 32 octet && nat_le octet 126 then octet ∷ []
    else codes "\\u00" ++ hex_digit (octet / 16) ∷ hex_digit (octet % 16) ∷ []

-- a text
abbrev pub quoted : List ℕ → List ℕ
quoted text = codes "\"" ++ flat_map escaped text ++ codes "\""

-- an octet within a text in UTF-8: one of a character beyond ASCII stands for itself
abbrev pub escaped_utf8 : ℕ → List ℕ
escaped_utf8 octet = if nat_lt 127 octet then octet ∷ [] else escaped octet

-- a text in UTF-8
abbrev pub quoted_utf8 : List ℕ → List ℕ
quoted_utf8 text = codes "\"" ++ flat_map escaped_utf8 text ++ codes "\""

abbrev pub is_digit : ℕ → Bool
is_digit octet = nat_le 48 octet && nat_le octet 57

-- there is a digit, and no zero before another
abbrev pub begins_well : List ℕ → Bool
begins_well [] = false
begins_well (first ∷ []) = true
begins_well (first ∷ second ∷ others) = not (first == 48)

-- decimal digits, as JSON spells a number
abbrev pub is_number : List ℕ → Bool
is_number part = begins_well part && list_all is_digit part
