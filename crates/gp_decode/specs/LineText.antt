-- What a line of an input says: what is passed over, whose message its code is, and the digits of the code (this
-- profile's own rule).
use Rattle.std.specs.Prelude.{ℕ, ◌==◌, ◌&&◌, ◌||◌, Bool, true, false, List, [], ◌∷◌, Option, None, Some, if◌then◌else◌, codes}
use Rattle.std.specs.List.{flat_map, slice_split}
use Rattle.gp_decode.specs.declared.direction.Direction.{Direction}
use Rattle.gp_decode.specs.declared.direction.Direction.TheVariants as direction

-- a carriage return at the end of a line is no part of its text
abbrev pub without_return : List ℕ → List ℕ
without_return [] = []
without_return (octet ∷ []) = if octet == 13 then [] else octet ∷ []
without_return (octet ∷ next ∷ rest) = octet ∷ without_return (next ∷ rest)

-- a text that is empty or begins with `#` is passed over
abbrev pub is_remark : List ℕ → Bool
is_remark [] = true
is_remark (octet ∷ rest) = octet == 35

-- what stands behind a word at the head of a text, if the word stands there
abbrev pub behind : List ℕ → List ℕ → Option (List ℕ)
behind [] text = Some text
behind (letter ∷ word) [] = None
behind (letter ∷ word) (octet ∷ text) = if letter == octet then behind word text else None

-- a unit's code behind the first of two words, or else one of the line terminal behind the second
abbrev pub first_word : Option (List ℕ) → Option (List ℕ) → Option (Bool × List ℕ)
first_word (Some code) down = Some (true, code)
first_word None (Some code) = Some (false, code)
first_word None None = None

-- whether the code in a text is a unit's, and what the text has of it; none where it would have to say it and doesn't
abbrev pub directed : Direction → List ℕ → Option (Bool × List ℕ)
directed direction.Up text = Some (true, text)
directed direction.Down text = Some (false, text)
directed direction.Each text = first_word (behind (codes "up ") text) (behind (codes "down ") text)

-- the direction of all codes of an input, where it is one
abbrev pub direction_of : Bool → Direction
direction_of true = direction.Up
direction_of false = direction.Down

-- what may stand between the digits of a code: a space, a hyphen, a colon
abbrev pub is_between : ℕ → Bool
is_between octet = (octet == 32) || (octet == 45) || (octet == 58)

-- digits without `0x` in front
abbrev pub without_prefix : List ℕ → List ℕ
without_prefix [] = []
without_prefix (octet ∷ []) = octet ∷ []
without_prefix (octet ∷ next ∷ rest) =
    if (octet == 48) && ((next == 120) || (next == 88)) then rest else octet ∷ next ∷ rest

-- the digits of a code as people write it: those of what stands before, between and behind spaces, hyphens and colons,
-- each without `0x` in front
unfoldable pub code_digits : List ℕ → List ℕ
code_digits text = flat_map without_prefix (slice_split is_between text)
