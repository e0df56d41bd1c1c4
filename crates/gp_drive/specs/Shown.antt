-- What is told of a simulated unit, and of light that comes or goes there (this profile's own rule).
use Rattle.std.specs.Prelude.{ℕ, Bool, false, true, List, [], ◌++◌, Option, None, Some, codes, decimal}
use Rattle.gp_onu.specs.declared.status.UnitStatus.{UnitStatus}
use Rattle.gp_onu.specs.State.{state_name}
use Rattle.gp_lines.specs.declared.turn.Asked.{Asked}
use Rattle.gp_lines.specs.declared.turn.Asked.TheVariants as asked
use Rattle.gp_replay.specs.Lights.{light_if}
use Rattle.gp_replay.specs.Playing.{Playing}

-- a number behind this text, where there is one
abbrev pub number_if : List ℕ → Option ℕ → List ℕ
number_if text None = []
number_if text (Some number) = text ++ decimal number

-- that no light reaches it
abbrev pub dark_if : Bool → List ℕ
dark_if false = codes " dark"
dark_if true = []

-- its ONU-ID and its equalization delay, where it has them, and that it is dark, where it is
abbrev pub status_end : UnitStatus → List ℕ
status_end status =
    number_if (codes " onu ") status.onu
    ++ (number_if (codes " eqd ") status.eqd ++ (dark_if status.is_lit ++ codes "\n"))

-- the line of the unit at this place: the place, the state, and what the unit has there
abbrev pub unit_line : ℕ → UnitStatus → List ℕ
unit_line unit status = codes "unit " ++ decimal unit ++ (codes " " ++ state_name status.state ++ status_end status)

-- if there is one
abbrev pub unit_line_if : ℕ → Option UnitStatus → List ℕ
unit_line_if unit None = []
unit_line_if unit (Some status) = unit_line unit status

-- what is told of the unit that a line asks to be shown, and, where that is wanted, of the light that comes or goes
-- with it
abbrev pub shown_of : {S : Type 0} → Bool → Playing S → Asked → S → List ℕ
shown_of lights playing asked.Nothing state = []
shown_of lights playing (asked.Event port event) state = []
shown_of lights playing (asked.Frames port count) state = []
shown_of lights playing (asked.Until port grant most) state = []
shown_of lights playing (asked.Light unit lit) state = light_if lights unit lit
shown_of lights playing (asked.ShowUnit unit) state = unit_line_if unit (playing.status state unit)
