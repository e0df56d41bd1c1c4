-- What the program says on standard error of each fault, and its exit status (this profile's own rule).
use Rattle.std.specs.Prelude.{ℕ, List, codes}
use Rattle.gp_script.specs.declared.fault.ScriptFault.{ScriptFault}
use Rattle.gp_script.specs.declared.fault.ScriptFault.TheVariants as scripts
use Rattle.gp_replay.specs.declared.fault.RunFault.{RunFault}
use Rattle.gp_replay.specs.declared.fault.RunFault.TheVariants as runs
use Rattle.gp_flow.specs.declared.fault.Unanswered.{Unanswered}
use Rattle.gp_flow.specs.declared.fault.Unanswered.TheVariants as unanswered
use Rattle.gp_flow.specs.declared.fault.LinesFault.TheVariants as reading
use Rattle.gp_verify.specs.declared.outcome.VerifyFault.{VerifyFault}
use Rattle.gp_verify.specs.declared.outcome.VerifyFault.TheVariants as verifies
use Rattle.gp_verify.specs.declared.verdict.Verdict.{Verdict}
use Rattle.gp_verify.specs.declared.verdict.Verdict.TheVariants as verdicts
use Rattle.gp_decode.specs.declared.fault.DecodeFault.{DecodeFault}
use Rattle.gp_decode.specs.declared.fault.DecodeFault.TheVariants as lines
use Rattle.gp_report.specs.declared.status.TheConstants.{BAD_INPUT, DISAGREEMENT, JOURNAL_FULL, NOT_A_RUN, NOT_WRITTEN, OUT_OF_MEMORY}

-- out of memory
abbrev pub memory_line : List ℕ
memory_line = codes "oltctl: memory"

-- a write failed or took nothing, or a flush failed
abbrev pub write_line : List ℕ
write_line = codes "oltctl: write"

-- a word of the command line is no UTF-8
abbrev pub arguments_line : List ℕ
arguments_line = codes "oltctl: arguments"

-- a fault of a script, by its number and its name
abbrev pub script_line : ScriptFault → List ℕ
script_line scripts.Syntax = codes "oltctl: script 1 syntax"
script_line scripts.Shape = codes "oltctl: script 2 shape"
script_line scripts.Range = codes "oltctl: script 3 range"
script_line scripts.Serial = codes "oltctl: script 4 serial"
script_line scripts.Hex = codes "oltctl: script 5 hex"
script_line scripts.Duplicate = codes "oltctl: script 6 duplicate"

-- a fault of a replay or of a storm
abbrev pub run_line : RunFault → List ℕ
run_line runs.Read = codes "oltctl: read"
run_line runs.TooLong = codes "oltctl: too long"
run_line (runs.Script fault) = script_line fault
run_line runs.OutOfMemory = memory_line
run_line runs.Write = write_line
run_line runs.Mismatch = codes "oltctl: mismatch"
run_line runs.JournalFull = codes "oltctl: journal full"

-- its exit status
abbrev pub run_status : RunFault → ℕ
run_status runs.OutOfMemory = OUT_OF_MEMORY
run_status runs.Write = NOT_WRITTEN
run_status runs.Mismatch = DISAGREEMENT
run_status runs.JournalFull = JOURNAL_FULL
run_status _ = BAD_INPUT

-- a fault of a code that was to be said in words
abbrev pub code_line : DecodeFault → List ℕ
code_line lines.Length = codes "oltctl: decode length"
code_line lines.Digit = codes "oltctl: decode digit"
code_line lines.Crc = codes "oltctl: decode crc"
code_line lines.Direction = codes "oltctl: decode direction"
code_line lines.OutOfMemory = memory_line
code_line lines.Write = write_line

-- its exit status
abbrev pub code_status : DecodeFault → ℕ
code_status lines.OutOfMemory = OUT_OF_MEMORY
code_status lines.Write = NOT_WRITTEN
code_status _ = BAD_INPUT

-- a line of a trace that can't be
abbrev pub verdict_line : Verdict → List ℕ
verdict_line verdicts.NotALine = codes "oltctl: no line of a trace"
verdict_line verdicts.NoPort = codes "oltctl: no such port"
verdict_line verdicts.WrongNumber = codes "oltctl: not the next number"
verdict_line verdicts.TooLong = codes "oltctl: line too long"
verdict_line verdicts.NotAStep = codes "oltctl: not a run"
verdict_line verdicts.Follows = codes "oltctl: not a run"

-- a line of a trace that was not judged
abbrev pub unanswered_line : Unanswered → List ℕ
unanswered_line unanswered.OutOfMemory = memory_line
unanswered_line unanswered.Write = write_line
unanswered_line unanswered.Full = codes "oltctl: too many lines"

-- its exit status
abbrev pub unanswered_status : Unanswered → ℕ
unanswered_status unanswered.OutOfMemory = OUT_OF_MEMORY
unanswered_status unanswered.Write = NOT_WRITTEN
unanswered_status unanswered.Full = BAD_INPUT

-- a verification that found no run, without the number of the line
abbrev pub verify_line : VerifyFault → List ℕ
verify_line (verifies.Refused line verdict) = verdict_line verdict
verify_line (verifies.Unended line) = codes "oltctl: no line feed"
verify_line (verifies.Lines reading.Read) = codes "oltctl: read"
verify_line (verifies.Lines (reading.Line fault)) = unanswered_line fault

-- its exit status: that of no run where the text was read so far and is none, whatever is wrong with it
abbrev pub verify_status : VerifyFault → ℕ
verify_status (verifies.Refused line verdict) = NOT_A_RUN
verify_status (verifies.Unended line) = NOT_A_RUN
verify_status (verifies.Lines reading.Read) = BAD_INPUT
verify_status (verifies.Lines (reading.Line fault)) = unanswered_status fault

-- a trace was to have lines, and none came; the status is that of no run
abbrev pub no_line_line : List ℕ
no_line_line = codes "oltctl: no line came"

-- a trace has fewer lines than were asked for, without their number; the status is that of no run
abbrev pub few_lines_line : List ℕ
few_lines_line = codes "oltctl: too few lines"
