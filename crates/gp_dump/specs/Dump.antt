-- A dump: declarations, and then times and the changes at each (this profile's own rule).
use Rattle.std.specs.Prelude.{◌≡◌, ◌<◌, ℕ, Bool, true, false, List, [], ◌∷◌, ◌++◌, Option, None, Some, codes, decimal, if◌then◌else◌, nat_lt, max, is_some, slice_index_or, ⊤}
use Rattle.std.specs.List.{flat_map}
use Rattle.gp_machine.specs.Config.{max_ports}
use Rattle.gp_dump.specs.declared.change.Change.{Change}
use Rattle.gp_dump.specs.declared.change.Change.TheVariants as change
use Rattle.gp_dump.specs.Text.{change_text}
use Rattle.gp_dump.specs.Head.{head_text}

-- ---- what is declared

-- which ports are declared, each with how many lanes, and the last time that was written
pub record DumpState : Type 0 where
  pub ports : List (Option ℕ)
  pub last : Option ℕ

-- how many lanes a port has, if it is declared
abbrev pub lanes_of : List (Option ℕ) → ℕ → Option ℕ
lanes_of ports number = if nat_lt number max_ports then slice_index_or ports number None else None

-- the port whose variable, or whose unit's, a change is of
abbrev pub port_of : Change → ℕ
port_of (change.Port number _) = number
port_of (change.Unit number _ _) = number

-- a lane of a port of so many
abbrev pub has_lane : ℕ → Option ℕ → Bool
has_lane lane None = false
has_lane lane (Some lanes) = nat_lt lane lanes

-- the variable of a change is declared, by how many lanes each port has, if it is declared
abbrev pub is_declared : List (Option ℕ) → Change → Bool
is_declared ports (change.Port number _) = is_some (lanes_of ports number)
is_declared ports (change.Unit number lane _) = has_lane lane (lanes_of ports number)

-- ---- times

-- a time, where it is behind the last one
abbrev pub time_text : Option ℕ → ℕ → List ℕ
time_text None time = codes "#" ++ decimal time ++ codes "\n"
time_text (Some last) time = if nat_lt last time then codes "#" ++ decimal time ++ codes "\n" else []

-- the last time behind that
abbrev pub time_behind : Option ℕ → ℕ → ℕ
time_behind None time = time
time_behind (Some last) time = max last time

-- ---- the text of a whole dump

-- what stands behind the declarations
pub data Part : Type 0 where
  At : (time : ℕ) → Part
  Set : (change : Change) → Part

abbrev pub part_text : Part → List ℕ
part_text (At time) = codes "#" ++ decimal time ++ codes "\n"
part_text (Set change) = change_text change

-- a time behind the last one
abbrev pub IsBehind : Option ℕ → ℕ → Type 0
IsBehind None time = ⊤
IsBehind (Some last) time = last < time

-- these parts lead from one time to another: each time is behind the one before it, each change stands behind a time,
-- and its variable is declared
abbrev pub AreParts : List (Option ℕ) → Option ℕ → List Part → Option ℕ → Type 0
AreParts ports from [] to = to ≡ from
AreParts ports from (At time ∷ parts) to = IsBehind from time × AreParts ports (Some time) parts to
AreParts ports from (Set change ∷ parts) to =
    (is_some from ≡ true) × (is_declared ports change ≡ true) × AreParts ports from parts to

-- a text of such parts
pub record Continues (ports : List (Option ℕ)) (from : Option ℕ) (text : List ℕ) (to : Option ℕ) : Type 0 where
  pub parts : List Part
  pub are : AreParts ports from parts to
  pub is : text ≡ flat_map part_text parts

-- a whole dump of these ports, up to this time
pub record IsDumpTo (ports : List (Option ℕ)) (text : List ℕ) (to : Option ℕ) : Type 0 where
  pub behind : List ℕ
  pub head : text ≡ head_text ports ++ behind
  pub continues : Continues ports None behind to
