-- Why a text is no line of a trace: its first part, from the left, that isn't one (this profile's own rule).
use Rattle.std.specs.Prelude.{ℕ, List, Result, Ok, Err, codes}
use Rattle.gp_machine.specs.declared.event.Event.{Event}
use Rattle.gp_lines.specs.declared.fault.LineFault.{LineFault}
use Rattle.gp_lines.specs.declared.fault.LineFault.TheVariants as fault
use Rattle.gp_lines.specs.Reading.{event_of, number_in}
use Rattle.gp_lines.specs.Spelling.{last_port}
use Rattle.gp_differ.specs.Parts.{Spelled, spelled}

-- what an event has to be, by the first fault of one
abbrev pub no_event : LineFault → List ℕ
no_event fault.Word = codes "the event: `frame`, `burst AT CODE` or a command stands behind the number"
no_event fault.Number = codes "the event: a number has decimal digits alone"
no_event fault.Serial =
    codes "the event: a serial number has 12 characters, as `ABCD00000001`, or 16 hexadecimal digits"
no_event fault.Hex = codes "the event: a code has 26 hexadecimal digits"
no_event fault.Range = codes "the event: a delay is 4294967295 at most, and an Alloc-ID 4095"
no_event fault.Long = codes "the event: `frame`, `burst AT CODE` or a command stands behind the number"
no_event fault.Space = codes "the event: `frame`, `burst AT CODE` or a command stands behind the number"

-- what is missing behind an event, or what that has to be
abbrev pub why_event : Result Event LineFault → List ℕ
why_event (Ok event) = codes "the answer: ` = ` and the reply stand behind the event"
why_event (Err fault) = no_event fault

-- the same of what stands behind a port
abbrev pub why_number : Result ℕ LineFault → List ℕ → List ℕ
why_number (Ok number) event = why_event (event_of event)
why_number (Err fault) event = codes "the number: how many entries the port had before stands behind the port"

-- the same of what a line begins with
abbrev pub why_port : Result ℕ LineFault → List ℕ → List ℕ → List ℕ
why_port (Ok port) number event = why_number (number_in 0 18446744073709551615 number) event
why_port (Err fault) number event = codes "the port: a line begins with one, 0 to 15"

abbrev pub why_parts : Spelled → List ℕ
why_parts parts = why_port (number_in 0 last_port parts.port) parts.number parts.event

-- why a text is no line
abbrev pub why_no_line : List ℕ → List ℕ
why_no_line text = why_parts (spelled text)
