-- The line of a simulated unit as a JSON object (this profile's own rule).
use Rattle.std.specs.Prelude.{ℕ, ◌==◌, ◌&&◌, nat_le, Bool, false, true, List, [], ◌∷◌, ◌++◌, Option, None, Some, if◌then◌else◌, codes}
use Rattle.std.specs.Str.{bytes_eq}
use Rattle.gp_json.specs.Spelling.{is_number, quoted}

-- the parts of such a line: its place, its state, its ONU-ID and its equalization delay, where it has them, and whether
-- light reaches it
pub record UnitFields : Type 0 where
  pub place : List ℕ
  pub state : List ℕ
  pub onu : Option (List ℕ)
  pub eqd : Option (List ℕ)
  pub is_lit : Bool

-- the name of a state: O1 to O7
abbrev pub is_state : List ℕ → Bool
is_state [] = false
is_state (letter ∷ []) = false
is_state (letter ∷ digit ∷ []) = letter == 79 && nat_le 49 digit && nat_le digit 55
is_state (letter ∷ digit ∷ third ∷ others) = false

-- a number behind this word, where they stand at the front of these parts, and the parts behind it
abbrev pub number_behind : List ℕ → List (List ℕ) → Option (List ℕ) × List (List ℕ)
number_behind word [] = (None, [])
number_behind word (first ∷ []) = (None, first ∷ [])
number_behind word (first ∷ digits ∷ others) =
    if bytes_eq first word && is_number digits then (Some digits, others) else (None, first ∷ digits ∷ others)

-- that no light reaches the unit, by the word for it
abbrev pub dark_of : List ℕ → Option Bool
dark_of word = if bytes_eq word (codes "dark") then Some false else None

-- whether light reaches the unit, by what ends its line
abbrev pub light_of : List (List ℕ) → Option Bool
light_of [] = Some true
light_of (word ∷ []) = dark_of word
light_of (word ∷ second ∷ others) = None

-- the parts of a line of a unit, by whether light reaches it
abbrev pub fields_with : List ℕ → List ℕ → Option (List ℕ) → Option (List ℕ) → Option Bool → Option UnitFields
fields_with place state onu eqd None = None
fields_with place state onu eqd (Some is_lit) =
    Some (record { place = place; state = state; onu = onu; eqd = eqd; is_lit = is_lit })

-- by the parts behind the state, and then by those behind the ONU-ID
abbrev pub fields_behind_onu : List ℕ → List ℕ → Option (List ℕ) → Option (List ℕ) × List (List ℕ) → Option UnitFields
fields_behind_onu place state onu (eqd, others) = fields_with place state onu eqd (light_of others)

abbrev pub fields_behind_state : List ℕ → List ℕ → Option (List ℕ) × List (List ℕ) → Option UnitFields
fields_behind_state place state (onu, others) = fields_behind_onu place state onu (number_behind (codes "eqd") others)

-- the parts of a line, where it is that of a unit: `unit`, its place and its state, and what stands behind these
abbrev pub unit_of : List (List ℕ) → Option UnitFields
unit_of [] = None
unit_of (word ∷ []) = None
unit_of (word ∷ place ∷ []) = None
unit_of (word ∷ place ∷ state ∷ others) =
    if bytes_eq word (codes "unit") && is_number place && is_state state
    then fields_behind_state place state (number_behind (codes "onu") others) else None

-- a number with its name, where there is one
abbrev pub number_field : List ℕ → Option (List ℕ) → List ℕ
number_field name None = []
number_field name (Some digits) = name ++ digits

-- whether light reaches the unit, which ends the object
abbrev pub light_end : Bool → List ℕ
light_end false = codes ",\"light\":false}\n"
light_end true = codes ",\"light\":true}\n"

-- the object of a unit
abbrev pub unit_fields_object : UnitFields → List ℕ
unit_fields_object unit =
    codes "{\"unit\":" ++ unit.place ++ codes ",\"state\":" ++ quoted unit.state
    ++ number_field (codes ",\"onu\":") unit.onu ++ number_field (codes ",\"eqd\":") unit.eqd
    ++ light_end unit.is_lit
