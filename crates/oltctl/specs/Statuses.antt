-- The exit statuses of the program (this profile's own rule).
use Rattle.std.specs.Prelude.{◌≡◌, ◌≢◌, ◌<◌, ◌≤◌, ◌==◌, ◌↔◌, ◌&&◌, ◌||◌, not, if◌then◌else◌, ℕ, Bool, true, false, List, ◌⊎◌, Option, None, Some, IsSome, is_some, Result, Ok, Err, IfOk, OnOk}
use Rattle.std.specs.List.{list_any}
use Rattle.std.specs.declared.io.ErrorKind.{ErrorKind as IoErrorKind}
use Rattle.std.specs.declared.io.ErrorKind.TheVariants as io_error
use Rattle.clap.specs.declared.error.kind.ErrorKind.{ErrorKind}
use Rattle.clap.specs.declared.error.kind.ErrorKind.TheVariants as error
use Rattle.gp_ploam.specs.declared.check.Mask.{Mask}
use Rattle.gp_decode.specs.declared.decoder.FaultAt.{FaultAt}
use Rattle.gp_decode.specs.declared.fault.DecodeFault.{DecodeFault}
use Rattle.gp_decode.specs.Line.{HasDecodeFault, IsOfText, SaysIn}
use Rattle.gp_drive.specs.declared.driven.Driven.{Driven}
use Rattle.gp_drive.specs.declared.fault.DriveFault.{DriveFault}
use Rattle.gp_drive.specs.declared.fault.DriveFault.TheVariants as drives
use Rattle.gp_encode.specs.declared.encoder.WordsFaultAt.{WordsFaultAt}
use Rattle.gp_explain.specs.declared.fault.ExplainFault.{ExplainFault}
use Rattle.gp_flow.specs.declared.fault.Unanswered.{Unanswered}
use Rattle.gp_flow.specs.declared.fault.LinesFault.{LinesFault}
use Rattle.gp_flow.specs.declared.fault.LinesFault.TheVariants.{Line}
use Rattle.gp_replay.specs.declared.fault.RunFault.{RunFault}
use Rattle.gp_finding.specs.declared.codes.Codes.{Codes}
use Rattle.gp_finding.specs.Codes.{are_all_garbled}
use Rattle.gp_finding.specs.Names.{rules as all_rules}
use Rattle.gp_observer.specs.Observer.{some_passes}
use Rattle.gp_observer.specs.declared.rule.Rule.{Rule}
use Rattle.gp_picture.specs.declared.running.PictureSum.{PictureSum}
use Rattle.gp_waves.specs.declared.running.WavesSum.{WavesSum}
use Rattle.gp_replay.specs.declared.fault.RunFault.TheVariants as run
use Rattle.gp_report.specs.declared.status.TheConstants.{BAD_ARGUMENTS, BAD_INPUT, NOT_A_RUN, NOT_WRITTEN, OUT_OF_MEMORY, SUCCESS, TEST_FAILED}
use Rattle.gp_report.specs.Report.{arguments_line, code_status, memory_line, run_status, verify_status}
use Rattle.gp_report.specs.Words.{explain_status, input_status}
use Rattle.gp_check.specs.declared.fault.ScriptCheckFault.{ScriptCheckFault}
use Rattle.gp_check.specs.declared.fault.ScriptCheckFault.TheVariants as checks
use Rattle.gp_generate.specs.declared.generating.GenerateFault.{GenerateFault}
use Rattle.gp_generate.specs.declared.generating.GenerateFault.TheVariants as generates
use Rattle.gp_generate.specs.declared.plan.Asked.{Asked}
use Rattle.gp_generate.specs.declared.plan.PlanFault.{PlanFault}
use Rattle.gp_generate.specs.Plan.{fault_of, wish_of}
use Rattle.gp_verify.specs.declared.outcome.CheckFault.{CheckFault}
use Rattle.gp_verify.specs.declared.outcome.CheckFault.TheVariants as check
use Rattle.gp_verify.specs.Ending.{wanted_lines}
use Rattle.gp_outcome.specs.Tally.{is_failed}
use Rattle.gp_outcome.specs.declared.outcome.Outcome.{Outcome}
use Rattle.clap.specs.Words.{Text, subcommand_rows_of}
use Rattle.clap.specs.declared.parser.matches.ArgMatches.{ArgMatches}
use Rattle.gp_command_line.specs.CommandLine.{IsFaultOf, IsParseOf}
use Rattle.gp_command_line.specs.Requests.{Asks, AsksNothing}
use Rattle.gp_audit.specs.declared.options.AuditOptions.{AuditOptions}
use Rattle.gp_audit.specs.declared.options.FindingChoice.{FindingChoice}
use Rattle.gp_audit.specs.Judging.{is_nothing, is_of_told, leaves_some}
use Rattle.gp_audit.specs.RuleSet.{contains}
use Rattle.gp_picture.specs.declared.options.PictureOptions.{PictureOptions}
use Rattle.gp_waves.specs.declared.options.WavesOptions.{WavesOptions}
use Rattle.gp_options.specs.Options.{AuditsAs, DrawsAs, DumpsAs, IsBadAudit, IsBadPicture, IsBadWaves}
use Rattle.gp_options.specs.declared.bad_option.BadOption.{BadOption}
use Rattle.gp_command_line.specs.declared.request.Audit.{Audit as WantedAudit}
use Rattle.gp_command_line.specs.declared.request.Drawing.{Drawing}
use Rattle.gp_command_line.specs.declared.request.Dumping.{Dumping}
use Rattle.oltctl.specs.declared.auditing.Audited.{Audited}
use Rattle.gp_with_units.specs.declared.explaining.ToldTrace.{ToldTrace}
use Rattle.gp_summed.specs.declared.codes.HeardCodes.{HeardCodes}
use Rattle.gp_command_line.specs.declared.request.Explanation.{Explanation}
use Rattle.gp_command_line.specs.declared.request.Request.{Request}
use Rattle.gp_command_line.specs.declared.request.Request.TheVariants.{Replay, Drive, Storm, Check, Generate, Test, Verify, Audit, Picture, Waves, Decode, DecodeLines, Encode, EncodeLines, Explain}

-- no status is greater
abbrev pub greatest_status : ℕ
greatest_status = NOT_A_RUN

-- the line on standard error and the status where the words of the command line could not be had
abbrev pub IsArgumentsReport : IoErrorKind → List ℕ → ℕ → Type 0
IsArgumentsReport io_error.OutOfMemory line status = (line ≡ memory_line) × (status ≡ OUT_OF_MEMORY)
IsArgumentsReport _ line status = (line ≡ arguments_line) × (status ≡ BAD_ARGUMENTS)

-- the status where the words were not parsed, by what was the matter; help that was asked for is no mistake, but may
-- not get out
abbrev pub IsStatusOf : ErrorKind → ℕ → Type 0
IsStatusOf error.OutOfMemory status = status ≡ OUT_OF_MEMORY
IsStatusOf error.DisplayHelp status = (status ≡ SUCCESS) ⊎ (status ≡ NOT_WRITTEN)
IsStatusOf error.DisplayVersion status = (status ≡ SUCCESS) ⊎ (status ≡ NOT_WRITTEN)
IsStatusOf _ status = status ≡ BAD_ARGUMENTS

-- the status after a replay or a storm, by how it ended
abbrev pub end_status : Result (Unit {0}) RunFault → ℕ
end_status (Ok done) = SUCCESS
end_status (Err fault) = run_status fault

-- the status after a replay of a file or of standard input: what they hold no contract can tell, so it is that of some
-- replay, but not of one with disagreement or with a full journal
abbrev pub IsPlayed : ℕ → Type 0
IsPlayed status =
    (outcome : Result (Unit {0}) RunFault) × (outcome ≢ Err run.Mismatch) × (outcome ≢ Err run.JournalFull)
    × (status ≡ end_status outcome)

-- the status after a storm of a file or of standard input, likewise that of some storm
abbrev pub IsStormed : ℕ → Type 0
IsStormed status = (outcome : Result (Unit {0}) RunFault) × (status ≡ end_status outcome)

-- the status after a drive: that some line was no turn is told, too
abbrev pub drive_status : Result Driven DriveFault → ℕ
drive_status (Ok driven) = if driven.errors == 0 then SUCCESS else BAD_INPUT
drive_status (Err (drives.Script fault)) = run_status fault
drive_status (Err (drives.Turns fault)) = input_status fault

-- what a file and standard input hold no contract can tell, so it is that of some drive
abbrev pub IsDriven : ℕ → Type 0
IsDriven status = (outcome : Result Driven DriveFault) × (status ≡ drive_status outcome)

-- all went well, and the code has a line, with names of the standard or without
abbrev pub IsSaid : List ℕ → Bool → Mask → Bool → ℕ → Type 0
IsSaid code upstream mask names status = (status ≡ SUCCESS) × ((line : List ℕ) × SaysIn names upstream mask code line)

-- it is the status of a fault, and the code has that fault, where it isn't one of memory or of the output
abbrev pub IsFaulty : List ℕ → Mask → ℕ → Type 0
IsFaulty code mask status =
    (fault : DecodeFault) × (status ≡ code_status fault) × (IsOfText fault → HasDecodeFault mask code fault)

-- the status after a code was to be said in words
pub record IsDecoded (code : List ℕ) (upstream : Bool) (mask : Mask) (names : Bool) (status : ℕ) : Type 0 where
  pub ended : IsSaid code upstream mask names status ⊎ IsFaulty code mask status
  -- memory aside, a code that has a fault has its status
  pub faulty : status ≢ OUT_OF_MEMORY → (fault : DecodeFault) → IsOfText fault → HasDecodeFault mask code fault
      → status ≡ code_status fault

-- the status after a code was to be said by an object
abbrev pub shown_status : Result (Option DecodeFault) Unanswered → ℕ
shown_status (Ok None) = SUCCESS
shown_status (Ok (Some fault)) = code_status fault
shown_status (Err fault) = input_status (Line fault)

-- that of an outcome that tells the fault which the code has, unless memory was refused or the output took no more
pub record IsShown (code : List ℕ) (mask : Mask) (status : ℕ) : Type 0 where
  pub outcome : Result (Option DecodeFault) Unanswered
  pub is : status ≡ shown_status outcome
  pub fault : IfOk outcome (λ told. (fault : DecodeFault) → IsOfText fault
      → (told ≡ Some fault) ↔ HasDecodeFault mask code fault)

-- the status of a run of so many lines: of one that has too few it is that of no run
abbrev pub IsRunStatus : ℕ → ℕ → ℕ → Type 0
IsRunStatus wanted lines status = (lines < wanted → status ≡ NOT_A_RUN) × (wanted ≤ lines → status ≡ SUCCESS)

-- the status after a verification that ended so
abbrev pub IsVerifyStatus : Option ℕ → Result ℕ CheckFault → ℕ → Type 0
IsVerifyStatus at_least (Ok lines) status = IsRunStatus (wanted_lines at_least) lines status
IsVerifyStatus at_least (Err (check.Script fault)) status = status ≡ run_status fault
IsVerifyStatus at_least (Err (check.Trace fault)) status = status ≡ verify_status fault

-- the status after a verification of files or of standard input: what they hold no contract can tell, so it is that of
-- some verification
abbrev pub IsVerified : Option ℕ → ℕ → Type 0
IsVerified at_least status = (outcome : Result ℕ CheckFault) × IsVerifyStatus at_least outcome status

-- a rule is asked for by name, though it is judged on no side that is told
abbrev pub names_untold : WantedAudit → FindingChoice → Bool
names_untold wanted told =
    is_some wanted.only && list_any (λ (rule : Rule). contains told.rules rule && not (is_of_told told rule)) all_rules

-- where all has to be judged, something was left: a rule that is asked for, or something that was heard on a port
abbrev pub leaves_strict : WantedAudit → FindingChoice → Audited → Bool
leaves_strict wanted told audited =
    wanted.strict && (names_untold wanted told || list_any (some_passes (leaves_some told)) audited.ports)

-- the status after a log was audited to its end: not all was looked at where a line was none, nothing was heard, nothing
-- was judged, or something was left and must not be; else it tells whether a rule is broken
abbrev pub audited_status : WantedAudit → FindingChoice → Audited → ℕ
audited_status wanted told audited =
    if not (audited.sum.errors == 0) then BAD_INPUT
    else if audited.is_silent then BAD_INPUT
    else if is_nothing audited.judged then BAD_INPUT
    else if leaves_strict wanted told audited then BAD_INPUT
    else if audited.sum.findings == 0 then SUCCESS
    else NOT_A_RUN

-- the status after an audit
abbrev pub audit_status : WantedAudit → FindingChoice → Result Audited LinesFault → ℕ
audit_status wanted told (Ok audited) = audited_status wanted told audited
audit_status wanted told (Err fault) = input_status fault

-- an option can't be read; or a log is judged as is asked for, which no contract can tell, so it is that of some log
abbrev pub IsAudited : WantedAudit → ℕ → Type 0
IsAudited wanted status =
    ((bad : BadOption) × IsBadAudit wanted bad × (status ≡ BAD_ARGUMENTS))
    ⊎ ((options : AuditOptions) × AuditsAs wanted options
    × (outcome : Result Audited LinesFault) × (status ≡ audit_status wanted options.told outcome))

-- the status after lines were decoded: that of the first fault, if one had a fault
abbrev pub lines_status : Result (Option FaultAt) LinesFault → ℕ
lines_status (Ok None) = SUCCESS
lines_status (Ok (Some first)) = code_status first.fault
lines_status (Err fault) = input_status fault

-- what codes are given, or standard input holds, no contract can tell, so it is that of some input
abbrev pub AreDecoded : ℕ → Type 0
AreDecoded status = (outcome : Result (Option FaultAt) LinesFault) × (status ≡ lines_status outcome)

-- the status after words were to be encoded: they have a code, or a fault, or memory or the output failed
abbrev pub IsEncoded : ℕ → Type 0
IsEncoded status = (status ≡ SUCCESS) ⊎ (status ≡ BAD_INPUT) ⊎ (status ≡ OUT_OF_MEMORY) ⊎ (status ≡ NOT_WRITTEN)

-- the status after lines of words were encoded, likewise that of some input
abbrev pub encoded_status : Result (Option WordsFaultAt) LinesFault → ℕ
encoded_status (Ok None) = SUCCESS
encoded_status (Ok (Some first)) = BAD_INPUT
encoded_status (Err fault) = input_status fault

abbrev pub AreEncoded : ℕ → Type 0
AreEncoded status = (outcome : Result (Option WordsFaultAt) LinesFault) × (status ≡ encoded_status outcome)

-- what became of each port and unit is told of a trace
abbrev pub is_counted : Explanation → Bool
is_counted wanted = not wanted.as_log && (wanted.units || wanted.summary)

-- codes came, and none of them could be read
abbrev pub are_unread : HeardCodes → Bool
are_unread codes = not (codes.garbled == 0) && not codes.is_read

-- the status after all lines of a trace were told; where it is told what became of each port and unit, something has to
-- have been heard
abbrev pub lines_told_status : Option HeardCodes → ℕ → ℕ
lines_told_status None lines = SUCCESS
lines_told_status (Some codes) lines = if (lines == 0) || are_unread codes then BAD_INPUT else SUCCESS

-- the status after a trace was told
abbrev pub told_by_status : Option HeardCodes → Result ℕ ExplainFault → ℕ
told_by_status codes (Ok lines) = lines_told_status codes lines
told_by_status codes (Err fault) = explain_status fault

abbrev pub told_status : ToldTrace → ℕ
told_status told = told_by_status told.codes told.lines

-- a trace that was told as is wanted: codes are heard where it is told what became of each port and unit, and nowhere
-- else
pub record IsToldAs (wanted : Explanation) (told : ToldTrace) : Type 0 where
  pub counted : is_counted wanted ≡ true → OnOk told.lines (IsSome told.codes)
  pub alone : is_counted wanted ≡ false → told.codes ≡ None

-- what a file or standard input holds no contract can tell, so it is that of some trace
abbrev pub IsExplained : Explanation → ℕ → Type 0
IsExplained wanted status = (told : ToldTrace) × IsToldAs wanted told × (status ≡ told_status told)

-- the status after a log was drawn or dumped, by whether one of its lines says anything, by where all that was heard is,
-- if it is in none of the frames that are wanted, and by how many codes came, and how many of them are garbled
abbrev pub heard_status : {T : Type 0} → Bool → Option T → Codes → ℕ
heard_status heard None codes =
    if are_all_garbled codes then BAD_INPUT else (if heard then SUCCESS else BAD_INPUT)
heard_status heard (Some outside) codes = BAD_INPUT

-- the status after a log was drawn
abbrev pub drawn_status : Result PictureSum ExplainFault → ℕ
drawn_status (Ok sum) = heard_status sum.heard sum.outside sum.codes
drawn_status (Err fault) = explain_status fault

-- the status after a log was to be drawn: an option can't be read; or it is drawn as is asked for, likewise
abbrev pub IsPictured : Drawing → ℕ → Type 0
IsPictured wanted status =
    ((bad : BadOption) × IsBadPicture wanted bad × (status ≡ BAD_ARGUMENTS))
    ⊎ ((options : PictureOptions) × DrawsAs wanted options
    × (outcome : Result PictureSum ExplainFault) × (status ≡ drawn_status outcome))

-- the status after a log was dumped, likewise
abbrev pub waves_status : Result WavesSum ExplainFault → ℕ
waves_status (Ok sum) = heard_status sum.heard sum.outside sum.codes
waves_status (Err fault) = explain_status fault

-- the status after a log was to be dumped: an option can't be; or it is dumped as is asked for, likewise
abbrev pub IsDumped : Dumping → ℕ → Type 0
IsDumped wanted status =
    ((bad : BadOption) × IsBadWaves wanted bad × (status ≡ BAD_ARGUMENTS))
    ⊎ ((options : WavesOptions) × DumpsAs wanted options
    × (outcome : Result WavesSum ExplainFault) × (status ≡ waves_status outcome))

-- the status after files were checked, by whether all are scripts
abbrev pub check_status : Result Bool ScriptCheckFault → ℕ
check_status (Ok true) = SUCCESS
check_status (Ok false) = BAD_INPUT
check_status (Err checks.OutOfMemory) = OUT_OF_MEMORY
check_status (Err checks.Write) = NOT_WRITTEN

-- what files hold no contract can tell, so it is that of some files
abbrev pub IsChecked : ℕ → Type 0
IsChecked status = (outcome : Result Bool ScriptCheckFault) × (status ≡ check_status outcome)

-- the status after scripts were judged, where all was told: whether one failed
abbrev pub tested_status : List Outcome → ℕ
tested_status outcomes = if list_any is_failed outcomes then TEST_FAILED else SUCCESS

-- or memory ran out, or the output or JUnit's file took no more
abbrev pub IsToldTest : List Outcome → ℕ → Type 0
IsToldTest outcomes status =
    (status ≡ tested_status outcomes) ⊎ (status ≡ OUT_OF_MEMORY) ⊎ (status ≡ NOT_WRITTEN)

-- what folders hold no contract can tell, so it is that of some scripts
abbrev pub IsTested : ℕ → Type 0
IsTested status = (outcomes : List Outcome) × IsToldTest outcomes status

-- the status after a script was generated
abbrev pub generate_status : Result (Unit {0}) GenerateFault → ℕ
generate_status (Ok done) = SUCCESS
generate_status (Err generates.OutOfMemory) = OUT_OF_MEMORY
generate_status (Err generates.Write) = NOT_WRITTEN

-- there is no such script; or it is written, and what standard output takes no contract can tell
abbrev pub IsGenerated : Asked → ℕ → Type 0
IsGenerated asked status =
    ((fault : PlanFault) × (fault_of (wish_of asked) ≡ Some fault) × (status ≡ BAD_ARGUMENTS))
    ⊎ ((fault_of (wish_of asked) ≡ None)
    × ((outcome : Result (Unit {0}) GenerateFault) × (status ≡ generate_status outcome)))

-- the status after what was asked for
abbrev pub IsServed : Request → ℕ → Type 0
IsServed (Replay file play) status = IsPlayed status
IsServed (Drive script told done units) status = IsDriven status
IsServed (Check files manner) status = IsChecked status
IsServed (Test wanted) status = IsTested status
IsServed (Storm file play) status = IsStormed status
IsServed (Generate asked) status = IsGenerated asked status
IsServed (Verify wanted) status = IsVerified wanted.at_least status
IsServed (Audit wanted) status = IsAudited wanted status
IsServed (Picture wanted) status = IsPictured wanted status
IsServed (Waves wanted) status = IsDumped wanted status
IsServed (Decode code upstream mask names true) status = IsShown code.now mask status
IsServed (Decode code upstream mask names false) status = IsDecoded code.now upstream mask names status
IsServed (DecodeLines many direction mask names json) status = AreDecoded status
IsServed (EncodeLines upstream mask json) status = AreEncoded status
IsServed (Encode words upstream mask json) status = IsEncoded status
IsServed (Explain wanted) status = IsExplained wanted status

-- how a run over the words of a command line may end, with this status
pub data IsRun (words : List Text) (status : ℕ) : Type 0 where
  -- they are not parsed: memory ran out, or they have a fault, as which asking for help is told
  refused : (kind : ErrorKind) → (kind ≢ error.OutOfMemory → IsFaultOf words kind) → IsStatusOf kind status
      → IsRun words status
  -- they are parsed, and what they ask for is done
  served : (parsed : ArgMatches) (request : Request) → IsParseOf words parsed → Asks (subcommand_rows_of parsed) request
      → IsServed request status → IsRun words status
  -- they are parsed, and ask for nothing that is known
  idle : (parsed : ArgMatches) → IsParseOf words parsed → AsksNothing (subcommand_rows_of parsed)
      → status ≡ BAD_ARGUMENTS → IsRun words status
