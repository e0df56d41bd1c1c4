-- What is said to the lines of a log, one after another (this profile's own rule).
use Rattle.std.specs.Prelude.{◌≡◌, ◌⊎◌, ℕ, ◌+◌, Bool, false, if◌then◌else◌, List, [], ◌++◌, replicate, Option, None, Some, Result, Err}
use Rattle.std.specs.List.{fold, list_all}
use Rattle.gp_machine.specs.Config.{max_ports}
use Rattle.gp_flow.specs.Lines.{Speech, WholeLines, most_lines}
use Rattle.line_columns.specs.Layout.{LayoutState, plain_of}
use Rattle.gp_log.specs.declared.fault.LogFault.{LogFault}
use Rattle.gp_log.specs.declared.fault.LogFault.TheVariants as faults
use Rattle.gp_log.specs.declared.line.LogLine.{LogLine}
use Rattle.gp_log.specs.Line.{Reads, text_of}
use Rattle.gp_finding.specs.declared.error.AuditSum.{AuditSum}
use Rattle.gp_audit.specs.declared.options.AuditOptions.{AuditOptions}
use Rattle.gp_audit.specs.Again.{TellsAgain}
use Rattle.gp_audit.specs.declared.judged.Judged.{Judged}
use Rattle.gp_audit.specs.Judging.{judged_on_both, nothing_judged}
use Rattle.gp_watch.specs.declared.fault.WatchFault.TheVariants as watches
use Rattle.gp_audit.specs.Failing.{LineFails, Overcounts}
use Rattle.gp_audit.specs.Hearing.{ports_after, told_of}
use Rattle.gp_audit.specs.Notice.{Notice, notices_text, sum_behind, sum_with}
use Rattle.gp_audit.specs.Port.{PortState, port_begun, port_of}
use Rattle.gp_audit.specs.Port as port

-- where it stands: how lines are laid out, what is known of each port, and how many lines, findings and errors there
-- were
pub record AuditState : Type 0 where
  pub options : AuditOptions
  pub layout : LayoutState
  pub ports : List PortState
  pub sum : AuditSum

-- before the first line
abbrev pub audit_begun : AuditOptions → LayoutState → AuditState
audit_begun options layout =
    record {
      options = options;
      layout = layout;
      ports = replicate max_ports (port_begun options.midway);
      sum = record { lines = 0; findings = 0; errors = 0 };
    }

-- nothing was heard on any port
abbrev pub is_silent : AuditState → Bool
is_silent state = list_all port.is_silent state.ports

-- what was judged on all ports
abbrev pub judged_on : List PortState → Judged
judged_on ports = fold (λ sum (at : PortState). judged_on_both sum at.judged) nothing_judged ports

-- what was judged on one, where something was heard there
abbrev pub judged_there : PortState → Option Judged
judged_there at = if port.is_silent at then None else Some at.judged

abbrev pub judged_at : List PortState → ℕ → Option Judged
judged_at ports port = judged_there (port_of ports port)

-- ---- a line that was read

-- what is told of the next line, by what was read of it
abbrev pub next_told : AuditState → Result LogLine LogFault → List Notice
next_told state read = told_of state.options state.ports (state.sum.lines + 1) read

-- how it stands then: the line is counted, and what is told of it
abbrev pub audit_after : AuditState → Result LogLine LogFault → AuditState
audit_after state read =
    record state {
      ports = ports_after state.options state.ports read;
      sum = sum_with (sum_behind state.sum) (next_told state read);
    }

-- ---- what is said

-- what is read of a line by its layout, or of one that is too long to be looked at
abbrev pub ReadsLine : LayoutState → Option (List ℕ) → Result LogLine LogFault → Type 0
ReadsLine layout None read = read ≡ Err faults.Long
ReadsLine layout (Some line) read = Reads (plain_of layout line) read

-- how it is told again; of one that is too long there is nothing to tell
abbrev pub TellsLineAgain : AuditOptions → LayoutState → Option (List ℕ) → Result LogLine LogFault → List ℕ → Type 0
TellsLineAgain options layout None read again = again ≡ []
TellsLineAgain options layout (Some line) read again =
    TellsAgain options.form options.mask (text_of (plain_of layout line)) read again

-- what is said to a line: it is told again, and behind it what is told of it
pub record SaysRead (old : AuditState) (line : Option (List ℕ)) (read : Result LogLine LogFault) (said : List ℕ)
    (new : AuditState) : Type 0 where
  pub again : List ℕ
  pub tells : TellsLineAgain old.options old.layout line read again
  pub said_is : said ≡ again ++ notices_text old.options (next_told old read)
  pub next : new ≡ audit_after old read

abbrev pub Audits : AuditState → Option (List ℕ) → List ℕ → AuditState → Type 0
Audits old line said new =
    (read : Result LogLine LogFault) × ReadsLine old.layout line read × SaysRead old line read said new

-- why no more can be told and noted, by what is read of a line: the findings or the errors can't be counted with those
-- of this line, or the asks of one serial number
abbrev pub CannotCount : AuditState → Result LogLine LogFault → Type 0
CannotCount old read =
    Overcounts old.sum (next_told old read) ⊎ LineFails old.options old.ports read watches.Full

-- why no more lines can be taken: so many have come as can be counted, or a count can't go on with this one
abbrev pub IsFull : AuditState → Option (List ℕ) → Type 0
IsFull old line =
    (old.sum.lines ≡ most_lines)
    ⊎ ((read : Result LogLine LogFault) × ReadsLine old.layout line read × CannotCount old read)

-- what is said to lines, each of which is answered whole or not at all
abbrev pub Auditing : Speech AuditState
Auditing = WholeLines IsFull Audits

-- it goes on to the end of the input
abbrev pub never : AuditState → Bool
never state = false
