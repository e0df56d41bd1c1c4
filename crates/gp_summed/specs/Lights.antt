-- Lines of light between the lines of a trace (this profile's own rule).
use Rattle.std.specs.Prelude.{◌≡◌, ◌⊎◌, ℕ, Bool, List, [], ◌∷◌, ◌++◌, codes}
use Rattle.gp_replay.specs.Lights.{light_line}

-- the line, which stands here without its line feed, tells that light came or went at a simulated unit
abbrev pub IsLight : List ℕ → Type 0
IsLight line = (unit : ℕ) × (lit : Bool) × (light_line unit lit ≡ line ++ codes "\n")

-- the first lines are the second ones, with lines of light between them
abbrev pub AddsLights : List (List ℕ) → List (List ℕ) → Type 0
AddsLights [] plain = plain ≡ []
AddsLights (line ∷ lines) plain =
    (IsLight line × AddsLights lines plain)
    ⊎ ((rest : List (List ℕ)) × (plain ≡ line ∷ rest) × AddsLights lines rest)
