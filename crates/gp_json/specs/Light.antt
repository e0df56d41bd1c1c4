-- The line that tells that light came or went at a simulated unit, as a JSON object (this profile's own rule).
use Rattle.std.specs.Prelude.{ℕ, ◌&&◌, Bool, false, true, List, [], ◌∷◌, ◌++◌, Option, None, Some, if◌then◌else◌, codes}
use Rattle.std.specs.Str.{bytes_eq}
use Rattle.gp_json.specs.Spelling.{is_number}
use Rattle.gp_json.specs.Object.{frames_field, one_of}
use Rattle.gp_json.specs.Units.{light_end}

-- the parts of such a line: the unit's place, and whether light came
pub record LightFields : Type 0 where
  pub place : List ℕ
  pub is_lit : Bool

-- whether light came or went, by the word for it
abbrev pub lit_of : List ℕ → Option Bool
lit_of word =
    if bytes_eq word (codes "light") then Some true else if bytes_eq word (codes "dark") then Some false else None

abbrev pub fields_with : List ℕ → Option Bool → Option LightFields
fields_with place None = None
fields_with place (Some is_lit) = Some (record { place = place; is_lit = is_lit })

-- by the only part behind the place
abbrev pub fields_behind : List ℕ → List ℕ → Option (List ℕ) → Option LightFields
fields_behind word place None = None
fields_behind word place (Some light) =
    if bytes_eq word (codes "unit") && is_number place then fields_with place (lit_of light) else None

-- the parts of a line, where it is that of light: `unit`, the unit's place, and `light` or `dark`
abbrev pub light_fields : List (List ℕ) → Option LightFields
light_fields [] = None
light_fields (word ∷ []) = None
light_fields (word ∷ place ∷ others) = fields_behind word place (one_of others)

-- the object of light that came or went, with how many frames the port has had, if that is told
abbrev pub light_object : Option ℕ → LightFields → List ℕ
light_object frames light =
    codes "{" ++ (frames_field frames ++ (codes "\"unit\":" ++ (light.place ++ light_end light.is_lit)))
