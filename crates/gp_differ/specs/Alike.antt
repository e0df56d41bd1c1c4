-- Lines that look alike (this profile's own rule).
use Rattle.std.specs.Prelude.{ℕ, suc, ◌+◌, ◌==◌, ◌||◌, Bool, List, [], ◌∷◌, ◌++◌, Option, None, Some, codes, decimal, if◌then◌else◌, slice_get}
use Rattle.std.specs.List.{flat_map}
use Rattle.std.specs.Str.{bytes_eq}
use Rattle.gp_differ.specs.declared.difference.Difference.{Difference}
use Rattle.gp_differ.specs.declared.difference.Difference.TheVariants.{Blank}
use Rattle.gp_differ.specs.Parts.{first_other, spelled}

-- a tab, a carriage return or a space
abbrev pub is_blank : ℕ → Bool
is_blank octet = octet == 9 || octet == 13 || octet == 32

-- an octet, if it is seen
abbrev pub seen : ℕ → List ℕ
seen octet = if is_blank octet then [] else octet ∷ []

-- what is seen of a text
abbrev pub seen_of : List ℕ → List ℕ
seen_of text = flat_map seen text

-- two texts look alike: they differ in blanks at most
abbrev pub look_alike : List ℕ → List ℕ → Bool
look_alike first second = bytes_eq (seen_of first) (seen_of second)

-- how two lines differ
abbrev pub difference_of : List ℕ → List ℕ → Difference
difference_of given said = if look_alike given said then Blank else first_other (spelled given) (spelled said)

-- how many octets both texts begin with
abbrev pub common_length : List ℕ → List ℕ → ℕ
common_length [] second = 0
common_length (octet ∷ first) [] = 0
common_length (octet ∷ first) (other ∷ second) = if octet == other then suc (common_length first second) else 0

-- what stands at the first place where a line differs, or is missing there
abbrev pub blank_name : Option ℕ → List ℕ
blank_name None = codes "a space is missing"
blank_name (Some octet) =
    if octet == 13 then codes "a carriage return stands"
    else if octet == 9 then codes "a tab stands"
    else if octet == 32 then codes "a space stands"
    else codes "a space is missing"

-- the same with that place, counted from 1
abbrev pub blank_reason : List ℕ → List ℕ → List ℕ
blank_reason given said =
    blank_name (slice_get given (common_length given said)) ++ codes " at octet "
    ++ decimal (common_length given said + 1)
