-- A line of a log, `[PORT] TIME down CODE`, `[PORT] TIME up CODE [DELAY]` or `[PORT] TIME grant GRANT` (this profile's
-- own rule).
use Rattle.std.specs.Prelude.{ℕ, List, Option, None, Some, Result, Ok, Err}
use Rattle.gp_lines.specs.Spelling.{last_port}
use Rattle.gp_log.specs.declared.fault.LogFault.{LogFault}
use Rattle.gp_log.specs.declared.fault.LogFault.TheVariants as fault
use Rattle.gp_log.specs.declared.line.LogLine.{LogLine}
use Rattle.gp_log.specs.declared.line.LogLine.TheVariants as line
use Rattle.gp_log.specs.declared.word.Kind.{Kind}
use Rattle.gp_log.specs.Fields.{◌>>=◌, Field, next, number_in}
use Rattle.gp_log.specs.Time.{time_of}
use Rattle.gp_log.specs.Says.{kind_of, said_of}

-- a port, a time, a word and what stands behind it
unfoldable pub entry_of : ℕ → List ℕ → Kind → List ℕ → Result LogLine LogFault
entry_of port time kind text = do
  at ← time_of time
  said ← said_of kind text
  Ok (line.Log port at said)

-- the same where the port is told
unfoldable pub ported_entry : List ℕ → List ℕ → Kind → List ℕ → Result LogLine LogFault
ported_entry digits time kind text = do
  port ← number_in fault.Number last_port digits
  entry_of port time kind text

abbrev pub third_entry : List ℕ → List ℕ → Option Kind → List ℕ → Result LogLine LogFault
third_entry digits time None text = Err fault.Word
third_entry digits time (Some kind) text = ported_entry digits time kind text

-- the word stands second, and the port is 0, or else third
abbrev pub second_entry : Field → Field → Option Kind → Result LogLine LogFault
second_entry first second None = third_entry first.0 second.0 (kind_of (next second.1).0) (next second.1).1
second_entry first second (Some kind) = entry_of 0 first.0 kind second.1

abbrev pub first_entry : Field → Result LogLine LogFault
first_entry first = second_entry first (next first.1) (kind_of (next first.1).0)

-- what a line of a log says
abbrev pub entry_in : List ℕ → Result LogLine LogFault
entry_in text = first_entry (next text)
