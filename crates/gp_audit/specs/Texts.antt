-- Texts as they are given, and the names that they list (this profile's own rule).
use Rattle.std.specs.Prelude.{ℕ, ◌==◌, Bool, List, [], Option, None, Some, map, flat_map}
use Rattle.std.specs.Borrow.{Bor}
use Rattle.std.specs.List.{slice_split}

-- a text, as its octets
abbrev pub Text : Type 0
Text = List ℕ

abbrev pub texts : Bor (List (Bor Text)) → List Text
texts words = map (λ word. word.now) words.now

-- the texts that are given, and none where they are left out
abbrev pub given : Option (Bor (List (Bor Text))) → List Text
given None = []
given (Some words) = texts words

abbrev pub is_comma : ℕ → Bool
is_comma octet = octet == 44

-- what stands before, between and behind the commas of a list
unfoldable pub names_of : Text → List Text
names_of list = slice_split is_comma list

-- the names of lists, one list after another
abbrev pub names_in : List Text → List Text
names_in lists = flat_map names_of lists
