-- How lines are read from the left, in their usual forms (this profile's own rule).
-- Inside: no public contract cites this.
use Rattle.std.specs.Prelude.{◌≡◌, ℕ, ◌*◌, ◌<◌, ◌≤◌, ◌^◌, Bool, true, List, ◌∷◌, ◌++◌, codes, ◌⊎◌, ⊤, Option, Some, Result, Ok, Err, if◌then◌else◌}
use Rattle.gp_machine.specs.declared.event.Event.{Event}
use Rattle.gp_lines.specs.Leading.{NumberLeads, EventLeads}
use Rattle.gp_lines.specs.Spelling.{last_port, SpellsNumber}
use Rattle.gp_log.specs.declared.fault.LogFault.{LogFault}
use Rattle.gp_log.specs.declared.fault.LogFault.TheVariants as fault
use Rattle.gp_log.specs.declared.line.LogLine.{LogLine}
use Rattle.gp_log.specs.declared.line.LogLine.TheVariants as line
use Rattle.gp_log.specs.declared.said.Said.{Said}
use Rattle.gp_log.specs.declared.word.Kind.{Kind}
use Rattle.gp_log.specs.Fields.{◌>>=◌, next, is_separator}
use Rattle.gp_log.specs.Time.{frame_time}
use Rattle.gp_log.specs.Says.{kind_of, said_of}
use Rattle.gp_log.specs.Log.{entry_in}
use Rattle.gp_log.specs.Trace.{next_granted, is_end}
use Rattle.gp_log.specs.Line.{IsTraceLine, ReadsTrace}

-- the line that was written, or the fault
abbrev pub written : Result ⊤ LogFault → LogLine → Result LogLine LogFault
written (Ok done) read = Ok read
written (Err wrong) read = Err wrong

-- what was said, as a line of a log
abbrev pub said_entry : ℕ → ℕ → Result Said LogFault → Result LogLine LogFault
said_entry port time said = do
  x ← said
  Ok (line.Log port time x)

-- the end of what is said in a frame
abbrev pub ended : ℕ → Option Said → Option Said → List ℕ → Result LogLine LogFault
ended port first second text = if is_end (next text).0 then Ok (line.Trace port true first second) else Err fault.Word

-- what is granted in a frame, behind what was sent
abbrev pub granted_said : ℕ → Option Said → List ℕ → Result LogLine LogFault
granted_said port first text = do
  granted ← next_granted text
  ended port first granted.0 granted.1

-- the text is no line of a trace, and is read as one of a log
abbrev pub ReadsEntry : List ℕ → Result LogLine LogFault → Type 0
ReadsEntry text read = (IsTraceLine text → ⊥) × (read ≡ entry_in text)

-- a text that is no remark is read as a line of a trace, or else of a log
abbrev pub ReadsTold : List ℕ → Result LogLine LogFault → Type 0
ReadsTold text read = ReadsTrace text read ⊎ ReadsEntry text read

-- the text begins with the digits of this number, and behind them stands the rest
pub record NumberBegins (text : List ℕ) (number : ℕ) (rest : List ℕ) : Type 0 where
  pub digits : List ℕ
  pub spelled : SpellsNumber digits number
  pub fits : number < 2 ^ 64
  pub apart : text ≡ digits ++ rest

-- the text begins with the digits of this number and a separator, and behind them stands the rest
pub record Begins (text : List ℕ) (number parting : ℕ) (rest : List ℕ) : Type 0 where
  pub begun : NumberBegins text number (parting ∷ rest)
  pub parted : is_separator parting ≡ true

-- the next field of the text is the word of a line of a log
pub record KindLeads (text : List ℕ) (kind : Kind) (rest : List ℕ) : Type 0 where
  pub word : List ℕ
  pub named : kind_of word ≡ Some kind
  pub cut : next text ≡ (word, rest)

-- the text begins as a line of a trace: with a port, a number, and a space behind each
pub record TraceLeads (text : List ℕ) (port : ℕ) (rest : List ℕ) : Type 0 where
  pub near : port ≤ last_port
  pub number : ℕ
  pub middle : List ℕ
  pub first : NumberLeads text port middle
  pub second : NumberLeads middle number rest

-- an event and an answer stand in the text
abbrev pub AreTold : List ℕ → Event → List ℕ → Type 0
AreTold text event answer = EventLeads text event (codes " = " ++ answer)

-- a port and a number, or a number alone, stand in front of the rest
pub record Fronts (text : List ℕ) (port number : ℕ) (is_traced : Bool) (rest : List ℕ) : Type 0 where
  pub logged : (kind : Kind) (behind : List ℕ) → KindLeads rest kind behind → number * frame_time < 2 ^ 64
      → ReadsEntry text (said_entry port (number * frame_time) (said_of kind behind))
  pub traced : is_traced ≡ true → TraceLeads text port rest
