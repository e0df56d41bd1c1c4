-- How writing a trace as a log may end (this profile's own rule).
use Rattle.std.specs.Prelude.{◌≡◌, ◌<◌, ◌⊎◌, ℕ, ◌+◌, true, List, [], ◌∷◌, ◌++◌, length, Option, Some, None, Result, Ok, Err}
use Rattle.std.specs.Io.KnownBytes.{Appends, Consumes}
use Rattle.gp_flow.specs.declared.fault.Unanswered.TheVariants.{OutOfMemory, Full}
use Rattle.gp_flow.specs.declared.fault.LinesFault.TheVariants as faults
use Rattle.gp_flow.specs.Lines.{GetsPrefix, Leaves, ServesFull, lines_of, longest_line}
use Rattle.gp_stream.specs.Sink.{SinkState, KeepsNothing}
use Rattle.gp_stream.specs.Source.{SourceState, ReadsWhole}
use Rattle.gp_explain.specs.declared.fault.ExplainFault.{ExplainFault}
use Rattle.gp_explain.specs.declared.fault.ExplainFault.TheVariants.{Refused, Lines}
use Rattle.gp_explain.specs.declared.fault.NoLine.{NoLine}
use Rattle.gp_explain.specs.declared.fault.NoLine.TheVariants.{NotALine, TooLong}
use Rattle.gp_transcribe.specs.Entries.{IsTraceRead, Transcribes}
use Rattle.gp_transcribe.specs.Transcribing.{Transcribing, no_frames, opened_state}

-- from these frames on, these texts are lines of a trace, and this is what is written of them, one after another
abbrev pub AreTranscribed : List ℕ → List (List ℕ) → List ℕ → Type 0
AreTranscribed frames [] said = said ≡ []
AreTranscribed frames (text ∷ texts) said =
    (first rest : List ℕ) × (next : List ℕ) × Transcribes frames text first next × AreTranscribed next texts rest
    × (said ≡ first ++ rest)

-- the whole trace was read, and the writer got what is written of each of its lines
pub record IsTranscribed {R W : Type 0} (from to : SourceState R) (before after : SinkState W) (lines : ℕ)
    : Type 0 where
  pub text : List ℕ
  pub read : ReadsWhole from to text
  pub count : length (lines_of text) ≡ lines
  -- what is written
  pub said : List ℕ
  pub transcribed : AreTranscribed no_frames (lines_of text) said
  -- the writer got all of it, and keeps nothing back
  pub written : Appends before.held after.held (before.gathered ++ said)
  pub kept : KeepsNothing after

-- why a text is no line of a trace
abbrev pub IsNone : NoLine → List ℕ → Type 0
IsNone NotALine text = IsTraceRead text → ⊥
IsNone TooLong text = longest_line < length text

-- the lines before this one were written, and this one is none of a trace
pub record IsRefused {R W : Type 0} (from to : SourceState R) (before after : SinkState W) (line : ℕ) (why : NoLine)
    : Type 0 where
  -- what was read
  pub bytes : List ℕ
  pub came : Consumes from.remaining to.remaining bytes
  -- its lines: those before, this one, and others
  pub first : List (List ℕ)
  pub text : List ℕ
  pub others : List (List ℕ)
  pub lines : lines_of bytes ≡ first ++ text ∷ others
  pub number : length first + 1 ≡ line
  pub none : IsNone why text
  -- what is written
  pub said : List ℕ
  pub transcribed : AreTranscribed no_frames first said
  pub written : Appends before.held after.held (before.gathered ++ said)
  pub kept : KeepsNothing after

-- of the lines that came the first were transcribed, and of what is written of them the writer got this
pub record IsBegun {R W : Type 0} (leaves : SinkState W → SinkState W → List ℕ → Type 0) (from to : SourceState R)
    (before after : SinkState W) : Type 0 where
  pub bytes : List ℕ
  pub came : Consumes from.remaining to.remaining bytes
  pub first : List (List ℕ)
  pub others : List (List ℕ)
  pub lines : lines_of bytes ≡ first ++ others
  -- what is written
  pub said : List ℕ
  pub transcribed : AreTranscribed no_frames first said
  pub written : leaves before after said

-- how it may end; a failed read, and the bound of reads, are told as such. Where a line was not transcribed, the writer
-- got what is written of those before it, unless a write failed; or memory ran out before anything was read.
-- That no more lines can be taken is told only where one of the lines is why.
abbrev pub TranscribesTrace : {R W : Type 0} → SourceState R → SourceState R → SinkState W → SinkState W
    → Result ℕ ExplainFault → Type 0
TranscribesTrace from to before after (Ok lines) = IsTranscribed from to before after lines
TranscribesTrace from to before after (Err (Refused line why)) = IsRefused from to before after line why
TranscribesTrace from to before after (Err (Lines faults.Read)) =
    IsBegun GetsPrefix from to before after × ((to.failed ≡ true) ⊎ (to.left ≡ 0))
TranscribesTrace from to before after (Err (Lines (faults.Line fault))) =
    (IsBegun (Leaves fault) from to before after
    ⊎ ((fault ≡ OutOfMemory) × (to ≡ from) × (after ≡ before)))
    × (fault ≡ Full → ServesFull Transcribing longest_line from to opened_state)

-- what was found, by what ended it, and how many lines came
abbrev pub finding : Option NoLine → ℕ → Result ℕ ExplainFault
finding None line = Ok line
finding (Some why) line = Err (Refused line why)
