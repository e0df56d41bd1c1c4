-- How the name of a file says what it is (this profile's own rule).
use Rattle.std.specs.Prelude.{ℕ, ◌-◌, Bool, false, List, Option, None, Some, codes, drop, length, take, if◌then◌else◌}
use Rattle.std.specs.Str.{bytes_eq}
use Rattle.gp_folder.specs.declared.part.Part.{Part}
use Rattle.gp_folder.specs.declared.part.Part.TheVariants as parts

-- how such a name ends
abbrev pub ending : Part → List ℕ
ending parts.Script = codes ".toml"
ending parts.Trace = codes ".trace"
ending parts.Faults = codes ".faults"

-- a name without this at its end, where it ends so
abbrev pub without : List ℕ → List ℕ → Option (List ℕ)
without end file =
    if bytes_eq (drop (length file - length end) file) end then Some (take (length file - length end) file) else None

-- the name of a file of this kind without its ending; none where it is of another kind
abbrev pub stem : Part → List ℕ → Option (List ℕ)
stem part file = without (ending part) file

-- it is this one
abbrev pub is_named : List ℕ → Option (List ℕ) → Bool
is_named name None = false
is_named name (Some other) = bytes_eq other name
