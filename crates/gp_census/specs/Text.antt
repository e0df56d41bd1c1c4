-- The lines that are told of a port and of its units (this profile's own rule).
use Rattle.std.specs.Prelude.{ℕ, ◌+◌, ◌/◌, ◌%◌, List, [], ◌∷◌, ◌++◌, Option, None, Some, codes, decimal}
use Rattle.std.specs.FinMap.{entries, len}
use Rattle.std.specs.List.{flat_map}
use Rattle.gp_ploam.specs.declared.message.Serial.{Serial}
use Rattle.gp_serial.specs.Spelling.{text_of_serial}
use Rattle.gp_observer.specs.Watch.{Watch}
use Rattle.gp_census.specs.declared.sighting.PortCounts.{PortCounts}
use Rattle.gp_census.specs.declared.sighting.Sighting.{Sighting}
use Rattle.gp_census.specs.declared.pushing.CensusForm.{CensusForm}
use Rattle.gp_census.specs.declared.pushing.CensusForm.TheVariants.{Text, Json}
use Rattle.gp_census.specs.declared.told.UnitState.{UnitState}
use Rattle.gp_census.specs.declared.told.UnitState.TheVariants.{Disabled, Operating, Assigned, Asking, Gone}
use Rattle.gp_census.specs.Census.{Census}
use Rattle.gp_watch.specs.Changes.{onu_held}
use Rattle.gp_census.specs.Told.{delay_with, allocs_with, state_of}

-- ---- pieces

abbrev pub state_name : UnitState → List ℕ
state_name Disabled = codes "disabled"
state_name Operating = codes "operating"
state_name Assigned = codes "assigned"
state_name Asking = codes "asking"
state_name Gone = codes "gone"

-- a number behind its name
abbrev pub number_field : List ℕ → ℕ → List ℕ
number_field name number = name ++ decimal number

-- and where there is none, nothing
abbrev pub number_if : List ℕ → Option ℕ → List ℕ
number_if name None = []
number_if name (Some number) = number_field name number

-- or `null`
abbrev pub number_or_null : List ℕ → Option ℕ → List ℕ
number_or_null name None = name ++ codes "null"
number_or_null name (Some number) = number_field name number

-- three digits
abbrev pub three_digits : ℕ → List ℕ
three_digits number = (48 + number / 100) ∷ (48 + number / 10 % 10) ∷ (48 + number % 10) ∷ []

-- nanoseconds in milliseconds with three decimals, the rest cut off
abbrev pub milliseconds : ℕ → List ℕ
milliseconds time = decimal (time / 1000000) ++ codes "." ++ three_digits (time / 1000 % 1000)

-- a time behind its name, where there is one
abbrev pub time_if : List ℕ → Option ℕ → List ℕ
time_if name None = []
time_if name (Some time) = name ++ milliseconds time ++ codes " ms"

-- numbers, with one text before the first and another before each further one
abbrev pub strung : List ℕ → List ℕ → List ℕ → List ℕ
strung first other [] = []
strung first other (number ∷ numbers) = number_field first number ++ flat_map (number_field other) numbers

-- numbers as JSON lists them
abbrev pub number_list : List ℕ → List ℕ
number_list numbers = codes "[" ++ strung [] (codes ",") numbers ++ codes "]"

-- ---- text

-- how many units there are, and how much was said
abbrev pub port_front : ℕ → ℕ → PortCounts → List ℕ
port_front number units port =
    number_field (codes "port ") number ++ number_field (codes ": units ") units
    ++ number_field (codes ", messages ") port.messages ++ number_field (codes ", codes up ") port.up

-- how many windows were opened, and what was garbled
abbrev pub port_rest : PortCounts → List ℕ
port_rest port =
    number_field (codes ", grants ") port.grants ++ number_field (codes ", garbled ") port.garbled_down
    ++ number_field (codes " down ") port.garbled_up ++ codes " up\n"

abbrev pub port_text : ℕ → Census → List ℕ
port_text port census = port_front port (len census.units) census.port ++ port_rest census.port

-- the unit, and what is known of it
abbrev pub unit_front : Watch → Serial → Sighting → List ℕ
unit_front watch serial unit =
    codes "unit " ++ text_of_serial serial ++ codes ": " ++ state_name (state_of watch serial unit)
    ++ number_if (codes ", onu ") (onu_held watch serial)
    ++ number_if (codes ", eqd ") (delay_with watch (onu_held watch serial))
    ++ strung (codes ", allocs ") (codes " ") (allocs_with watch (onu_held watch serial))

-- when it was heard last, and how long it took
abbrev pub unit_times : Sighting → List ℕ
unit_times unit = time_if (codes ", last ") unit.heard_last ++ time_if (codes ", took ") unit.took ++ codes "\n"

-- what was counted of it
abbrev pub unit_counts : Sighting → List ℕ
unit_counts unit =
    number_field (codes ", asked ") unit.asked ++ number_field (codes ", assigned ") unit.assigned
    ++ number_field (codes ", ranged ") unit.ranged ++ number_field (codes ", lost ") unit.lost
    ++ number_field (codes ", answers ") unit.answers
    ++ unit_times unit

abbrev pub unit_text : Watch → Serial → Sighting → List ℕ
unit_text watch serial unit = unit_front watch serial unit ++ unit_counts unit

-- ---- JSON

abbrev pub port_object_front : ℕ → ℕ → PortCounts → List ℕ
port_object_front number units port =
    number_field (codes "{\"port\":") number ++ number_field (codes ",\"units\":") units
    ++ number_field (codes ",\"messages\":") port.messages ++ number_field (codes ",\"up\":") port.up

abbrev pub port_object_rest : PortCounts → List ℕ
port_object_rest port =
    number_field (codes ",\"grants\":") port.grants ++ number_field (codes ",\"garbled_down\":") port.garbled_down
    ++ number_field (codes ",\"garbled_up\":") port.garbled_up ++ codes "}\n"

abbrev pub port_object : ℕ → Census → List ℕ
port_object port census =
    port_object_front port (len census.units) census.port ++ port_object_rest census.port

-- which unit it is, and what it does
abbrev pub object_name : ℕ → Serial → UnitState → List ℕ
object_name port serial state =
    number_field (codes "{\"port\":") port ++ codes ",\"serial\":\"" ++ text_of_serial serial
    ++ codes "\",\"state\":\"" ++ state_name state ++ codes "\""

-- what it holds
abbrev pub object_held : Watch → Option ℕ → Option ℕ → List ℕ
object_held watch onu delay =
    number_or_null (codes ",\"onu\":") onu ++ number_or_null (codes ",\"eqd\":") delay
    ++ codes ",\"allocs\":" ++ number_list (allocs_with watch onu)

-- the unit, and what is known of it
abbrev pub object_front : ℕ → Watch → Serial → Sighting → List ℕ
object_front port watch serial unit =
    object_name port serial (state_of watch serial unit)
    ++ object_held watch (onu_held watch serial) (delay_with watch (onu_held watch serial))

-- what was counted of it
abbrev pub object_counts : Sighting → List ℕ
object_counts unit =
    number_field (codes ",\"asked\":") unit.asked ++ number_field (codes ",\"assigned\":") unit.assigned
    ++ number_field (codes ",\"ranged\":") unit.ranged ++ number_field (codes ",\"lost\":") unit.lost
    ++ number_field (codes ",\"answers\":") unit.answers
    ++ number_or_null (codes ",\"last_ns\":") unit.heard_last ++ number_or_null (codes ",\"took_ns\":") unit.took
    ++ codes "}\n"

abbrev pub unit_object : ℕ → Watch → Serial → Sighting → List ℕ
unit_object port watch serial unit = object_front port watch serial unit ++ object_counts unit

-- ---- both

-- a unit, and what is known of it
abbrev pub front_line : CensusForm → ℕ → Watch → Serial × Sighting → List ℕ
front_line Text port watch (serial, unit) = unit_front watch serial unit
front_line Json port watch (serial, unit) = object_front port watch serial unit

abbrev pub port_line : CensusForm → ℕ → Census → List ℕ
port_line Text port census = port_text port census
port_line Json port census = port_object port census

abbrev pub unit_line : CensusForm → ℕ → Watch → Serial × Sighting → List ℕ
unit_line Text port watch (serial, unit) = unit_text watch serial unit
unit_line Json port watch (serial, unit) = unit_object port watch serial unit

-- a line of the port, and one of each unit of which something was counted, in the order of their serial numbers
unfoldable pub told_census : CensusForm → ℕ → Watch → Census → List ℕ
told_census form port watch census =
    port_line form port census ++ flat_map (unit_line form port watch) (entries census.units)
