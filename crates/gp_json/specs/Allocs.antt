-- The Alloc-IDs of a unit as a list of objects (this profile's own rule): they come with commas between, one that is
-- leaving with a mark behind it, and as `-` where there are none.
use Rattle.std.specs.Prelude.{ℕ, ◌==◌, Bool, false, List, [], ◌∷◌, ◌++◌, if◌then◌else◌, codes}
use Rattle.std.specs.List.{list_all, slice_split}
use Rattle.std.specs.Str.{bytes_eq}
use Rattle.gp_json.specs.Message.{truth}
use Rattle.gp_json.specs.Spelling.{is_number}

-- a comma
abbrev pub is_comma : ℕ → Bool
is_comma octet = octet == 44

-- the mark of one that is leaving, `!`, stands at the end
abbrev pub is_leaving : List ℕ → Bool
is_leaving [] = false
is_leaving (octet ∷ []) = octet == 33
is_leaving (octet ∷ next ∷ rest) = is_leaving (next ∷ rest)

-- what stands before the mark, or all
abbrev pub without_mark : List ℕ → List ℕ
without_mark [] = []
without_mark (octet ∷ []) = if octet == 33 then [] else octet ∷ []
without_mark (octet ∷ next ∷ rest) = octet ∷ without_mark (next ∷ rest)

-- this is a number, with the mark or without; that it is an Alloc-ID, at most 4095, is not looked at
abbrev pub is_alloc : List ℕ → Bool
is_alloc part = is_number (without_mark part)

-- an Alloc-ID, and whether it is leaving
abbrev pub alloc_object : List ℕ → List ℕ
alloc_object part =
    codes "{\"alloc\":" ++ without_mark part ++ codes ",\"leaving\":" ++ truth (is_leaving part) ++ codes "}"

-- objects with commas between
abbrev pub alloc_objects : List (List ℕ) → List ℕ
alloc_objects [] = []
alloc_objects (part ∷ []) = alloc_object part
alloc_objects (part ∷ next ∷ others) = alloc_object part ++ codes "," ++ alloc_objects (next ∷ others)

-- the Alloc-IDs that commas part
unfoldable pub split_allocs : List ℕ → List (List ℕ)
split_allocs text = slice_split is_comma text

-- the list; `null` of a text that is none
abbrev pub alloc_list : List ℕ → List ℕ
alloc_list text =
    if bytes_eq text (codes "-") then codes "[]"
    else if list_all is_alloc (split_allocs text) then codes "[" ++ alloc_objects (split_allocs text) ++ codes "]"
    else codes "null"
