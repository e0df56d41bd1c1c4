-- How the verification of a text may end (this profile's own rule).
use Rattle.std.specs.Prelude.{◌≡◌, ◌<◌, ◌⊎◌, ℕ, ◌+◌, true, List, [], ◌∷◌, ◌++◌, length, IfSome, Option, Some, None, Result, Ok, Err}
use Rattle.std.specs.Io.KnownBytes.{Appends, Consumes}
use Rattle.gp_flow.specs.declared.fault.Unanswered.TheVariants.{Full}
use Rattle.gp_flow.specs.declared.fault.LinesFault.{LinesFault}
use Rattle.gp_flow.specs.declared.fault.LinesFault.TheVariants as faults
use Rattle.gp_flow.specs.declared.lines.LinesEnd.{LinesEnd}
use Rattle.gp_flow.specs.declared.lines.LinesEnd.TheVariants.{Whole, Open, Over}
use Rattle.gp_flow.specs.Lines.{ServesFull, lines_of, longest_line}
use Rattle.gp_stream.specs.Sink.{SinkState, KeepsNothing}
use Rattle.gp_stream.specs.Source.{SourceState, ReadsWhole}
use Rattle.gp_ploam.specs.declared.check.Mask.{Mask}
use Rattle.gp_machine.specs.declared.entry.Receipt.{Receipt}
use Rattle.gp_replay.specs.Chassis.{PlayState}
use Rattle.gp_verify.specs.declared.outcome.VerifyFault.{VerifyFault}
use Rattle.gp_verify.specs.declared.outcome.VerifyFault.TheVariants.{Refused, Unended, Lines}
use Rattle.gp_verify.specs.declared.verdict.Verdict.{Verdict}
use Rattle.gp_verify.specs.declared.verdict.Verdict.TheVariants.{TooLong}
use Rattle.gp_verify.specs.Following.{Following}
use Rattle.gp_verify.specs.Report.{Reports}
use Rattle.gp_verify.specs.Tells.{AreLinesOf, IsTraceText}
use Rattle.gp_verify.specs.Verdicts.{Judges, VerifyState}

-- the whole text was read; it is the trace of some run, and has so many lines
pub record IsRun {R : Type 0} (old : VerifyState) (from to : SourceState R) (lines : ℕ) : Type 0 where
  pub text : List ℕ
  pub read : ReadsWhole from to text
  pub trace : IsTraceText old.mask old.play text
  pub count : length (lines_of text) ≡ lines

-- what is said of the line that can't be: a line that is too long was not looked at
abbrev pub Condemns : Verdict → Mask → PlayState → List ℕ → PlayState → List ℕ → Type 0
Condemns TooLong mask old text new said = longest_line < length text
Condemns verdict mask old text new said = Judges verdict mask old text new said

-- the text is not the trace of any run, where the reader tells its bytes
abbrev pub IsNoRun : {R : Type 0} → VerifyState → SourceState R → Type 0
IsNoRun old from = IfSome from.remaining (λ text. IsTraceText old.mask old.play text → ⊥)

-- the lines before this one are those of a run, and this one can't follow, for this reason
pub record IsRefused {R : Type 0} (old new : VerifyState) (from to : SourceState R) (line : ℕ)
    (verdict : Verdict) (told : List ℕ) : Type 0 where
  -- what was read of the text
  pub bytes : List ℕ
  pub came : Consumes from.remaining to.remaining bytes
  -- its lines: those before, this one, and others
  pub before : List (List ℕ)
  pub text : List ℕ
  pub others : List (List ℕ)
  pub lines : lines_of bytes ≡ before ++ text ∷ others
  pub number : length before + 1 ≡ line
  -- the run
  pub receipts : List Receipt
  pub mid : PlayState
  pub run : AreLinesOf old.mask old.play before receipts mid
  pub condemned : Condemns verdict old.mask mid text new.play new.said
  -- what is told of it
  pub told_is : Reports old.form verdict line new text told
  -- so no run has this trace, whatever comes behind what was read
  pub none : IsNoRun old from

-- the whole text was read, and its lines are those of a run, but it ends before the last one's line feed
pub record IsUnended {R : Type 0} (old : VerifyState) (from to : SourceState R) (line : ℕ) : Type 0 where
  pub text : List ℕ
  pub read : ReadsWhole from to text
  pub count : length (lines_of text) ≡ line
  pub none : IsNoRun old from

-- a failed read is told, and only it and the bound of reads are; that no more lines can be taken is told only where one
-- of the lines is why
abbrev pub IsUnread : {R : Type 0} → LinesFault → VerifyState → SourceState R → SourceState R → Type 0
IsUnread faults.Read old from to = (to.failed ≡ true) ⊎ (to.left ≡ 0)
IsUnread (faults.Line fault) old from to = fault ≡ Full → ServesFull Following longest_line from to old

-- how a verification may end, and what is told of it: nothing, but of the line that can't be
abbrev pub Verifies : {R : Type 0} → VerifyState → VerifyState → SourceState R → SourceState R → List ℕ
    → Result ℕ VerifyFault → Type 0
Verifies old new from to told (Ok lines) = IsRun old from to lines × (told ≡ [])
Verifies old new from to told (Err (Refused line verdict)) = IsRefused old new from to line verdict told
Verifies old new from to told (Err (Unended line)) = IsUnended old from to line × (told ≡ [])
Verifies old new from to told (Err (Lines fault)) = IsUnread fault old from to

-- the writer got all of it behind what was gathered before, and nothing is kept back
abbrev pub WritesAll : {W : Type 0} → SinkState W → SinkState W → List ℕ → Type 0
WritesAll before after told = Appends before.held after.held (before.gathered ++ told) × KeepsNothing after

-- what is told is written, but where the text was not read or a line not judged
abbrev pub Writes : {W : Type 0} → SinkState W → SinkState W → List ℕ → Result ℕ VerifyFault → Type 0
Writes before after told (Err (Lines fault)) = Unit {0}
Writes before after told _ = WritesAll before after told

-- the text was verified, what is told of it was written
pub record RunsVerify {R W : Type 0} (old new : VerifyState) (from to : SourceState R) (before after : SinkState W)
    (answer : Result ℕ VerifyFault) : Type 0 where
  pub told : List ℕ
  pub verified : Verifies old new from to told answer
  pub written : Writes before after told answer

-- what was found, by how far the text was read, what ended the verification, and how many lines were judged
abbrev pub finding : LinesEnd → Option Verdict → ℕ → Result ℕ VerifyFault
finding end (Some verdict) line = Err (Refused line verdict)
finding Open None line = Err (Unended line)
finding Whole None line = Ok line
finding Over None line = Ok line
