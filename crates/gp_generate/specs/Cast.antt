-- Who is in a scene (this profile's own rule).
use Rattle.std.specs.Prelude.{ℕ, ◌+◌, ◌/◌, ◌%◌, ◌==◌, if◌then◌else◌, List, [], ◌∷◌}
use Rattle.gp_ploam.specs.declared.message.Serial.{Serial}
use Rattle.gp_generate.specs.declared.chance.Draw.{Draw}
use Rattle.gp_generate.specs.declared.plan.Wish.{Wish}
use Rattle.gp_generate.specs.declared.cast.Cast.{Cast}
use Rattle.gp_generate.specs.Plan.{cast_units}

-- the octets of a unit's serial number behind its first four: its port and its place
abbrev pub numbered_by : ℕ → ℕ → List ℕ
numbered_by port unit = 0 ∷ port ∷ (unit / 256) ∷ (unit % 256) ∷ []

-- ABCD, or of one unit in four octets that are no vendor code
abbrev pub serial_of : ℕ → ℕ → Serial
serial_of port unit = record { 0 = (if unit % 4 == 3 then 1 else 65) ∷ 66 ∷ 67 ∷ 68 ∷ numbered_by port unit }

-- WXYZ
abbrev pub stranger_of : ℕ → ℕ → Serial
stranger_of port unit = record { 0 = 87 ∷ 88 ∷ 89 ∷ 90 ∷ numbered_by port unit }

abbrev pub units_cast : Wish → ℕ
units_cast plan = cast_units plan

-- a unit by a number
abbrev pub unit_by : Wish → ℕ → ℕ
unit_by plan number = number % cast_units plan

-- who is in the scene that is opened with this draw
abbrev pub cast_of : Wish → Draw → Cast
cast_of plan draw = record { port = draw.who % plan.ports; unit = unit_by plan draw.what; at = draw.place % 300000 }

-- who is in an event that may be anything
abbrev pub cast_anew : Wish → Cast → Draw → Cast
cast_anew plan cast draw = record { port = cast.port; unit = unit_by plan draw.who; at = draw.place % 300000 }

-- the unit so many places behind the scene's
abbrev pub unit_behind : Wish → Cast → ℕ → ℕ
unit_behind plan cast places = unit_by plan (cast.unit + places)
