-- Words of the command line as one text (this profile's own rule).
use Rattle.std.specs.Prelude.{if◌then◌else◌, ℕ, List, [], ◌∷◌, ◌++◌, ◌==◌, map, codes}
use Rattle.gp_decode.specs.declared.direction.Direction.{Direction}
use Rattle.gp_decode.specs.declared.direction.Direction.TheVariants as direction
use Rattle.gp_decode.specs.LineText.{is_remark, without_return}

-- the word before a code that says whose message it is; none where the code says that itself
abbrev pub word_of : Direction → List ℕ
word_of direction.Up = codes "up "
word_of direction.Down = codes "down "
word_of direction.Each = []

-- the octet that stands for one of an argument that is a line: a space for a line feed
abbrev pub on_a_line : ℕ → ℕ
on_a_line octet = if octet == 10 then 32 else octet

-- what keeps a line from being passed over
abbrev pub blank_before : List ℕ → List ℕ
blank_before code = if is_remark (without_return code) then 32 ∷ [] else []

-- a code as a line, behind a word that says whose message it is
abbrev pub line_of_code : List ℕ → List ℕ → List ℕ
line_of_code word code = word ++ blank_before code ++ map on_a_line code ++ 10 ∷ []
