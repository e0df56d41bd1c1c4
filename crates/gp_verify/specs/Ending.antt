-- What is told when a verification has ended (this profile's own rule): of a run that it is one, and as JSON also what
-- is wrong where no line was told.
use Rattle.std.specs.Prelude.{◌≡◌, ℕ, nat_lt, unwrap_or, if◌then◌else◌, Bool, true, false, MatchBool, List, [], ◌++◌, Option, None, Some, Result, Ok, Err, codes, decimal}
use Rattle.gp_explain.specs.declared.form.Form.{Form}
use Rattle.gp_explain.specs.declared.form.Form.TheVariants.{Plain, Words, Json}
use Rattle.gp_flow.specs.declared.fault.Unanswered.TheVariants as lines
use Rattle.gp_flow.specs.declared.fault.LinesFault.TheVariants.{Line}
use Rattle.gp_stream.specs.declared.sink.WriteStopped.{WriteStopped}
use Rattle.gp_stream.specs.Sink.{SinkState, WritesWhole}
use Rattle.gp_stream.specs.Source.{SourceState}
use Rattle.gp_verify.specs.declared.outcome.CheckFault.{CheckFault}
use Rattle.gp_verify.specs.declared.outcome.CheckFault.TheVariants as checks
use Rattle.gp_verify.specs.declared.outcome.VerifyFault.{VerifyFault}
use Rattle.gp_verify.specs.declared.outcome.VerifyFault.TheVariants as verifies
use Rattle.gp_verify.specs.declared.verdict.Verdict.TheVariants as verdict
use Rattle.gp_verify.specs.Checking.{ChecksIn}

-- how many lines a trace has to have: as many as are asked for, and else one
abbrev pub wanted_lines : Option ℕ → ℕ
wanted_lines at_least = unwrap_or at_least 1

-- a run of so many lines, by the form
abbrev pub run_text : Form → ℕ → List ℕ
run_text Plain lines = decimal lines ++ codes " lines, a run\n"
run_text Words lines = decimal lines ++ codes " lines, a run\n"
run_text Json lines = codes "{\"run\":true,\"lines\":" ++ decimal lines ++ codes "}\n"

-- the object of a trace of too few lines: how many came, and how many were to come
abbrev pub few_begun : Option ℕ → List ℕ
few_begun None = codes "{\"run\":false,\"kind\":\"no line came\",\"lines\":"
few_begun (Some count) = codes "{\"run\":false,\"kind\":\"too few lines\",\"lines\":"

abbrev pub few_object : Option ℕ → ℕ → List ℕ
few_object at_least lines =
    few_begun at_least ++ decimal lines ++ codes ",\"wanted\":" ++ decimal (wanted_lines at_least) ++ codes "}\n"

-- a trace of too few lines, by the form
abbrev pub few_text : Form → Option ℕ → ℕ → List ℕ
few_text Plain at_least lines = []
few_text Words at_least lines = []
few_text Json at_least lines = few_object at_least lines

-- a line that is too long, which was not kept
abbrev pub long_text : Form → ℕ → List ℕ
long_text Plain line = []
long_text Words line = []
long_text Json line = codes "{\"run\":false,\"kind\":\"line too long\",\"line\":" ++ decimal line ++ codes "}\n"

-- a last line that would follow, without its line feed
abbrev pub open_text : Form → ℕ → List ℕ
open_text Plain line = []
open_text Words line = []
open_text Json line = codes "{\"run\":false,\"kind\":\"no line feed\",\"line\":" ++ decimal line ++ codes "}\n"

-- what is told at the end; of a line that can't be and was kept all is told before
abbrev pub end_text : Form → Option ℕ → Result ℕ VerifyFault → List ℕ
end_text form at_least (Ok lines) =
    if nat_lt lines (wanted_lines at_least) then few_text form at_least lines else run_text form lines
end_text form at_least (Err (verifies.Refused line verdict.TooLong)) = long_text form line
end_text form at_least (Err (verifies.Refused line verdict.Follows)) = []
end_text form at_least (Err (verifies.Refused line verdict.NotALine)) = []
end_text form at_least (Err (verifies.Refused line verdict.NoPort)) = []
end_text form at_least (Err (verifies.Refused line verdict.WrongNumber)) = []
end_text form at_least (Err (verifies.Refused line verdict.NotAStep)) = []
end_text form at_least (Err (verifies.Unended line)) = open_text form line
end_text form at_least (Err (verifies.Lines fault)) = []

-- what is answered, by what was found, and by whether what is told at the end was written
abbrev pub after_writing : Result ℕ VerifyFault → Result (Unit {0}) WriteStopped → Result ℕ VerifyFault
after_writing found (Ok done) = found
after_writing found (Err stopped) = Err (verifies.Lines (Line lines.Write))

-- this was told at the end
abbrev pub TellsEnd : {W : Type 0} → List ℕ → Result ℕ VerifyFault → SinkState W → SinkState W → Result ℕ VerifyFault
    → Type 0
TellsEnd text found mid new answer =
    (written : Result (Unit {0}) WriteStopped) × WritesWhole mid new text written
    × (answer ≡ after_writing found written)

-- the text was read as far as it counts, and each line judged
abbrev pub was_read : Result ℕ VerifyFault → Bool
was_read (Ok lines) = true
was_read (Err (verifies.Refused line verdict)) = true
was_read (Err (verifies.Unended line)) = true
was_read (Err (verifies.Lines fault)) = false

-- where it was not nothing is told
abbrev pub Ends : {W : Type 0} → Form → Option ℕ → Result ℕ VerifyFault → SinkState W → SinkState W
    → Result ℕ VerifyFault → Type 0
Ends form at_least found mid new answer =
    MatchBool (was_read found) (TellsEnd (end_text form at_least found) found mid new answer)
    ((answer ≡ found) × (new ≡ mid))

-- what was found of a trace, as what was found of a script and a trace
abbrev pub as_checked : Result ℕ VerifyFault → Result ℕ CheckFault
as_checked (Ok lines) = Ok lines
as_checked (Err fault) = Err (checks.Trace fault)

-- the same where a script was to be read first
abbrev pub EndsCheck : {W : Type 0} → Form → Option ℕ → Result ℕ CheckFault → SinkState W → SinkState W
    → Result ℕ CheckFault → Type 0
EndsCheck form at_least (Ok lines) mid new answer =
    (told : Result ℕ VerifyFault) × Ends form at_least (Ok lines) mid new told × (answer ≡ as_checked told)
EndsCheck form at_least (Err (checks.Trace fault)) mid new answer =
    (told : Result ℕ VerifyFault) × Ends form at_least (Err fault) mid new told × (answer ≡ as_checked told)
EndsCheck form at_least (Err (checks.Script fault)) mid new answer =
    (answer ≡ Err (checks.Script fault)) × (new ≡ mid)

-- the trace was checked against the script, what is told of it in this form was written, and then what is told at the
-- end
pub record ChecksTold {R T W : Type 0} (form : Form) (at_least : Option ℕ) (before after : SourceState R)
    (from to : SourceState T) (old new : SinkState W) (answer : Result ℕ CheckFault) : Type 0 where
  pub found : Result ℕ CheckFault
  pub mid : SinkState W
  pub checked : ChecksIn form before after from to old mid found
  pub ended : EndsCheck form at_least found mid new answer
