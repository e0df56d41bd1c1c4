-- The numbers of turns that lines of text ask for (this library's own rule).
use Rattle.std.specs.Prelude.{ℕ, List, Some, Result, Ok, Err}
use Rattle.gp_ploam.specs.declared.check.Mask.TheVariants.{Plain}
use Rattle.gp_lines.specs.declared.fault.LineFault.{LineFault}
use Rattle.gp_lines.specs.declared.fault.LineFault.TheVariants.{Word, Number, Serial, Hex, Range, Long, Space}
use Rattle.gp_lines.specs.declared.turn.Asked.{Asked}
use Rattle.gp_lines.specs.declared.turn.Asked.TheVariants.{Nothing, Event, Frames, Until, Light, ShowUnit}
use Rattle.gp_lines.specs.TurnReading as reading
use Rattle.gp_c.specs.declared.fault.Fault.{Fault}
use Rattle.gp_c.specs.declared.fault.Fault.TheVariants.{LineWord, LineNumber, LineSerial, LineHex, LineRange, LineLong, LineSpace}
use Rattle.gp_c.specs.declared.turn.TurnNumbers.{TurnNumbers}
use Rattle.gp_c.specs.Answers.{grant_numbers}
use Rattle.gp_c.specs.Events.{frame_numbers, event_numbers}
use Rattle.gp_c.specs.Rows.{flag}

-- nothing, of which all numbers are 0
abbrev pub nothing : TurnNumbers
nothing =
    record
    { event = frame_numbers; count = 0; unit = 0; kind = 0; port = 0; is_lit = 0; grant = 0; grant_onu = 0 }

-- a turn
abbrev pub turn_numbers : Asked → TurnNumbers
turn_numbers Nothing = nothing
turn_numbers (Event port event) = record nothing { kind = 1; port = port; event = event_numbers event }
turn_numbers (Frames port count) = record nothing { kind = 2; port = port; count = count }
turn_numbers (Until port grant most) =
    record nothing {
      kind = 3;
      port = port;
      count = most;
      grant = (grant_numbers (Some grant)).0;
      grant_onu = (grant_numbers (Some grant)).1;
    }
turn_numbers (Light unit lit) = record nothing { kind = 4; unit = unit; is_lit = flag lit }
turn_numbers (ShowUnit unit) = record nothing { kind = 5; unit = unit }

-- what is wrong with a line
abbrev pub line_fault : LineFault → Fault
line_fault Word = LineWord
line_fault Number = LineNumber
line_fault Serial = LineSerial
line_fault Hex = LineHex
line_fault Range = LineRange
line_fault Long = LineLong
line_fault Space = LineSpace

-- what is read
abbrev pub told_turn : Result Asked LineFault → Result TurnNumbers Fault
told_turn (Ok asked) = Ok (turn_numbers asked)
told_turn (Err fault) = Err (line_fault fault)

-- the turn that a line asks for, or its first fault; what a unit says is encoded under no mask
abbrev pub turn_of : List ℕ → Result TurnNumbers Fault
turn_of line = told_turn (reading.turn_of Plain line)
