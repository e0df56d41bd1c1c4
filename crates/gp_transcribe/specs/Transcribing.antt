-- What is written of the lines of a trace (this profile's own rule).
use Rattle.std.specs.Prelude.{◌≡◌, ℕ, ◌+◌, ◌⊎◌, Bool, List, [], ◌∷◌, Option, None, Some, is_some}
use Rattle.gp_flow.specs.Lines.{Speech, WholeLines, most_lines}
use Rattle.gp_explain.specs.declared.fault.NoLine.{NoLine}
use Rattle.gp_explain.specs.declared.fault.NoLine.TheVariants.{NotALine, TooLong}
use Rattle.gp_transcribe.specs.Entries.{HasTooManyFrames, IsTraceRead, Transcribes}

-- where it stands: how many frames each port has had, how many lines came, and why the last of them ended it, if it did
pub record TranscribeState : Type 0 where
  pub frames : List ℕ
  pub lines : ℕ
  pub ended : Option NoLine

-- no port has had a frame
abbrev pub no_frames : List ℕ
no_frames = 0 ∷ 0 ∷ 0 ∷ 0 ∷ 0 ∷ 0 ∷ 0 ∷ 0 ∷ 0 ∷ 0 ∷ 0 ∷ 0 ∷ 0 ∷ 0 ∷ 0 ∷ 0 ∷ []

-- before the first line
abbrev pub opened_state : TranscribeState
opened_state = record { frames = no_frames; lines = 0; ended = None }

-- one line more came, and these are the frames behind it
abbrev pub counted : List ℕ → TranscribeState → TranscribeState
counted frames state = record state { frames = frames; lines = state.lines + 1 }

-- one line more came, which is no line of a trace
abbrev pub ended_by : NoLine → TranscribeState → TranscribeState
ended_by why state = record state { lines = state.lines + 1; ended = Some why }

-- a line of a trace is written; any other line ends it, and nothing is written of it
abbrev pub SaysToText : TranscribeState → List ℕ → List ℕ → TranscribeState → Type 0
SaysToText old text said new =
    ((next : List ℕ) × Transcribes old.frames text said next × (new ≡ counted next old))
    ⊎ ((IsTraceRead text → ⊥) × (said ≡ []) × (new ≡ ended_by NotALine old))

-- by what ended it before: nothing is written any more; a line that is too long ends it
abbrev pub SaysFrom : Option NoLine → TranscribeState → Option (List ℕ) → List ℕ → TranscribeState → Type 0
SaysFrom (Some why) old line said new = (said ≡ []) × (new ≡ old)
SaysFrom None old None said new = (said ≡ []) × (new ≡ ended_by TooLong old)
SaysFrom None old (Some text) said new = SaysToText old text said new

-- what is written of a line
abbrev pub Says : TranscribeState → Option (List ℕ) → List ℕ → TranscribeState → Type 0
Says old line said new = SaysFrom old.ended old line said new

-- a log can't tell so many frames as the port of this line has had with it
abbrev pub IsUntold : TranscribeState → Option (List ℕ) → Type 0
IsUntold state None = ⊥
IsUntold state (Some text) = HasTooManyFrames state.frames text

-- why no more lines can be taken: it has not ended, and so many have come as can be counted, or this one's frame
-- can't be told
abbrev pub IsFull : TranscribeState → Option (List ℕ) → Type 0
IsFull state line = (state.ended ≡ None) × ((state.lines ≡ most_lines) ⊎ IsUntold state line)

-- what is written of lines, of each all or nothing
abbrev pub Transcribing : Speech TranscribeState
Transcribing = WholeLines IsFull Says

-- it has ended
abbrev pub has_ended : TranscribeState → Bool
has_ended state = is_some state.ended
