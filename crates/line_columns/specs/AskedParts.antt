-- The parts of a text, one after another.
-- Inside: no public contract cites this.
use Rattle.std.specs.Prelude.{ℕ, ◌+◌, List, [], length, Option, None, Some}
use Rattle.std.specs.Borrow.{Bor}
use Rattle.line_columns.specs.Asked.{parts_of}

-- the parts of what is left of a text, if more is left
abbrev pub parts_left : Option (Bor (List ℕ)) → List (List ℕ)
parts_left None = []
parts_left (Some text) = parts_of text.now

-- how much is left, with the comma before it
abbrev pub octets_left : Option (Bor (List ℕ)) → ℕ
octets_left None = 0
octets_left (Some text) = length text.now + 1
