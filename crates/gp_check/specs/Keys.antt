-- What is told of a key that a table may not have: the key that was meant, where one is near, and those that there are
-- (this profile's own rule).
use Rattle.std.specs.Prelude.{ℕ, ◌==◌, ◌||◌, Bool, true, false, List, [], ◌∷◌, ◌++◌, Option, Some, None, if◌then◌else◌, codes, map}
use Rattle.std.specs.List.{find}
use Rattle.std.specs.Str.{bytes_eq}
use Rattle.gp_script.specs.declared.place.Key.{Key}
use Rattle.gp_script.specs.declared.place.Key.TheVariants as keys
use Rattle.gp_script.specs.declared.place.TablePlace.{TablePlace}
use Rattle.gp_script.specs.Keys.{is_one_of}
use Rattle.gp_script.specs.Mistake.{key_name}
use Rattle.gp_script.specs.Tables.{keys_of}

-- two texts are the same but for their first octets, which are exchanged
abbrev pub is_swapped : List ℕ → List ℕ → Bool
is_swapped (a ∷ b ∷ given) (c ∷ d ∷ name) = bytes_eq (a ∷ b ∷ given) (d ∷ c ∷ name)
is_swapped _ _ = false

-- of two texts, whose first octets differ, one has an octet more or another octet there, or two are exchanged
abbrev pub is_near_here : List ℕ → List ℕ → Bool
is_near_here [] [] = false
is_near_here [] (_ ∷ name) = bytes_eq [] name
is_near_here (_ ∷ given) [] = bytes_eq given []
is_near_here (a ∷ given) (b ∷ name) =
    bytes_eq given name || (bytes_eq given (b ∷ name)
    || (bytes_eq (a ∷ given) name || is_swapped (a ∷ given) (b ∷ name)))

-- two texts differ by one octet, which stands in one of them alone or is another one, or by two that are exchanged
abbrev pub is_near : List ℕ → List ℕ → Bool
is_near (a ∷ given) (b ∷ name) = if a == b then is_near given name else is_near_here (a ∷ given) (b ∷ name)
is_near given name = is_near_here given name

-- the first of these keys that is near
abbrev pub meant : List Key → List ℕ → Option Key
meant keys name = find (λ key. is_near name (key_name key)) keys

-- the key that was meant, where there is one
abbrev pub meant_text : Option Key → List ℕ
meant_text None = []
meant_text (Some key) = codes ", perhaps " ++ key_name key

-- texts, with commas between them
abbrev pub listed : List (List ℕ) → List ℕ
listed [] = []
listed (text ∷ []) = text
listed (text ∷ more) = text ++ codes ", " ++ listed more

-- the keys that a table may have
abbrev pub keys_text : TablePlace → List ℕ
keys_text table = listed (map key_name (keys_of table))

-- the keys of the top that have a value of their own, and no list of tables
abbrev pub top_values : List Key
top_values = keys.Licences ∷ keys.Mask ∷ keys.JournalLimit ∷ []

-- this is the name of one of them
abbrev pub is_of_top : List ℕ → Bool
is_of_top name = is_one_of top_values name

-- what is told of a key that a table may not have; of an event, whose keys are those of its form, it may be one of
-- another form
abbrev pub unknown_key_text : TablePlace → List ℕ → List ℕ
unknown_key_text table name =
    if is_one_of (keys_of table) name then codes "unknown key in this form of an event"
    else if is_of_top name then codes "unknown key here; it has to stand before the first table"
    else codes "unknown key" ++ meant_text (meant (keys_of table) name) ++ codes "; there are " ++ keys_text table
