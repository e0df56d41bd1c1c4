-- What a line says: one of a log, or one of a trace (this profile's own rule). It comes without its line feed.
use Rattle.std.specs.Prelude.{◌≡◌, ℕ, ◌<◌, ◌≤◌, ◌==◌, ◌&&◌, Bool, true, false, List, [], ◌∷◌, length, ◌⊎◌, Result, Ok, Err, if◌then◌else◌}
use Rattle.gp_machine.specs.declared.event.Event.{Event}
use Rattle.gp_flow.specs.Lines.{longest_line}
use Rattle.gp_lines.specs.Trace.{SplitsLine}
use Rattle.gp_lines.specs.Turn.{is_remark, without_return}
use Rattle.gp_log.specs.declared.fault.LogFault.{LogFault}
use Rattle.gp_log.specs.declared.fault.LogFault.TheVariants as fault
use Rattle.gp_log.specs.declared.line.LogLine.{LogLine}
use Rattle.gp_log.specs.declared.line.LogLine.TheVariants as line
use Rattle.gp_log.specs.Log.{entry_in}
use Rattle.gp_log.specs.Trace.{trace_line}

-- a text without a byte order mark in front
abbrev pub without_order_mark : List ℕ → List ℕ
without_order_mark [] = []
without_order_mark (first ∷ []) = first ∷ []
without_order_mark (first ∷ second ∷ []) = first ∷ second ∷ []
without_order_mark (first ∷ second ∷ third ∷ text) =
    if (first == 239) && (second == 187) && (third == 191) then text else first ∷ second ∷ third ∷ text

-- the text of a line: neither a byte order mark at its front nor a carriage return at its end is a part of it
abbrev pub text_of : List ℕ → List ℕ
text_of line = without_return (without_order_mark line)

-- a line of a trace, whatever its answer says
abbrev pub IsTraceLine : List ℕ → Type 0
IsTraceLine text =
    (port number : ℕ) × (event : Event) × (answer : List ℕ) × SplitsLine text port number event answer

-- what is read of a line of a trace
pub record ReadsTrace (text : List ℕ) (read : Result LogLine LogFault) : Type 0 where
  pub port : ℕ
  pub number : ℕ
  pub event : Event
  pub answer : List ℕ
  pub split : SplitsLine text port number event answer
  pub told : read ≡ trace_line port event answer

-- a text is passed over, or is a line of a trace, or is read as one of a log
abbrev pub ReadsText : List ℕ → Result LogLine LogFault → Type 0
ReadsText text read =
    ((is_remark text ≡ true) × (read ≡ Ok line.Remark))
    ⊎ ((is_remark text ≡ false) × ReadsTrace text read)
    ⊎ ((is_remark text ≡ false) × (IsTraceLine text → ⊥) × (read ≡ entry_in text))

-- what is read of a line, or its first fault
abbrev pub Reads : List ℕ → Result LogLine LogFault → Type 0
Reads line read =
    ((longest_line < length line) × (read ≡ Err fault.Long))
    ⊎ ((length line ≤ longest_line) × ReadsText (text_of line) read)

-- whether a line says nothing: it is empty, or a remark
abbrev pub says_nothing : LogLine → Bool
says_nothing line.Remark = true
says_nothing (line.Log port time said) = false
says_nothing (line.Trace port is_frame first second) = false
