-- How auditing a log may end (this profile's own rule).
use Rattle.std.specs.Prelude.{◌≡◌, ◌≢◌, ◌⊎◌, ℕ, ◌+◌, true, List, [], ◌∷◌, ◌++◌, length, map, Option, Result, Ok, Err}
use Rattle.std.specs.Io.KnownBytes.{Appends}
use Rattle.gp_flow.specs.declared.fault.Unanswered.{Unanswered}
use Rattle.gp_flow.specs.declared.fault.Unanswered.TheVariants.{Write, OutOfMemory, Full}
use Rattle.gp_flow.specs.declared.fault.LinesFault.{LinesFault}
use Rattle.gp_flow.specs.declared.fault.LinesFault.TheVariants.{Read, Line}
use Rattle.gp_flow.specs.Lines.{DoesAll, GetsPrefix, Leaves, ServesEnded, ServesFull, ServesSome, handed, lines_of, longest_line}
use Rattle.gp_stream.specs.Sink.{SinkState, KeepsNothing, TakesPrefix}
use Rattle.gp_stream.specs.Source.{SourceState, ReadsWhole}
use Rattle.gp_log.specs.declared.fault.LogFault.{LogFault}
use Rattle.gp_log.specs.declared.line.LogLine.{LogLine}
use Rattle.gp_finding.specs.declared.error.AuditSum.{AuditSum}
use Rattle.gp_audit.specs.declared.options.AuditForm.TheVariants.{Words}
use Rattle.gp_audit.specs.Audit.{AuditState, Auditing, ReadsLine, audit_after, next_told}
use Rattle.gp_audit.specs.Ending.{end_text}
use Rattle.gp_audit.specs.Notice.{Notice, errors_among, findings_among, notices_text}

-- these are told of lines, one after another
abbrev pub AreTold : AuditState → List (Option (List ℕ)) → List Notice → AuditState → Type 0
AreTold old [] notices new = (notices ≡ []) × (new ≡ old)
AreTold old (line ∷ lines) notices new =
    (read : Result LogLine LogFault) × (rest : List Notice) × ReadsLine old.layout line read
    × AreTold (audit_after old read) lines rest new × (notices ≡ next_told old read ++ rest)

-- the sum counts the lines, and the findings and errors among all that is told of them; where lines aren't told again,
-- that is all that is said
pub record Counts (old : AuditState) (lines : List (Option (List ℕ))) (said : List ℕ) (new : AuditState) : Type 0 where
  pub notices : List Notice
  pub told : AreTold old lines notices new
  pub lines_are : new.sum.lines ≡ old.sum.lines + length lines
  pub findings_are : new.sum.findings ≡ old.sum.findings + findings_among notices
  pub errors_are : new.sum.errors ≡ old.sum.errors + errors_among notices
  pub text : old.options.form ≢ Words → said ≡ notices_text old.options notices

-- the whole input was read, and this is said to its lines
pub record IsRead {R : Type 0} (from to : SourceState R) (old : AuditState) (said : List ℕ) (new : AuditState) : Type 0
  where
    pub text : List ℕ
    pub read : ReadsWhole from to text
    pub spoken : DoesAll Auditing old (map (handed longest_line) (lines_of text)) said new
    pub counts : Counts old (map (handed longest_line) (lines_of text)) said new

-- the units and the sum were told, or not: where memory is refused nothing is written
abbrev pub TellsEnd : {W : Type 0} → AuditState → SinkState W → SinkState W → Result (Unit {0}) Unanswered → Type 0
TellsEnd state before after (Ok _) =
    Appends before.held after.held (before.gathered ++ end_text state) × (after.gathered ≡ [])
    × (before.flushed ≡ true → after.flushed ≡ true)
TellsEnd state before after (Err Write) = TakesPrefix before after (end_text state)
TellsEnd state before after (Err OutOfMemory) = after ≡ before
TellsEnd state before after (Err Full) = ⊥

-- each line was audited, and behind what is said to them the units, where that is wanted, and the sum were told; the
-- writer got all of it, and keeps nothing back
pub record IsAudited {R W : Type 0} (old new : AuditState) (from to : SourceState R) (before after : SinkState W)
    (sum : AuditSum) : Type 0 where
  pub said : List ℕ
  pub audited : IsRead from to old said new
  pub sum_is : sum ≡ new.sum
  pub written : Appends before.held after.held (before.gathered ++ (said ++ end_text new))
  pub kept : KeepsNothing after

-- each line was audited, and the end was not told: for want of memory, and then the writer got all that is said to the
-- lines; or since a write failed, and then it got a prefix of that and of the end
abbrev pub LeavesUnended : {W : Type 0} → Unanswered → SinkState W → SinkState W → List ℕ → List ℕ → Type 0
LeavesUnended OutOfMemory before after said end =
    Appends before.held after.held (before.gathered ++ said) × KeepsNothing after
LeavesUnended Write before after said end = GetsPrefix before after (said ++ end)
LeavesUnended Full before after said end = ⊥

pub record IsUnended {R W : Type 0} (fault : Unanswered) (old new : AuditState) (from to : SourceState R)
    (before after : SinkState W) : Type 0 where
  pub said : List ℕ
  pub audited : IsRead from to old said new
  pub left : LeavesUnended fault before after said (end_text new)

-- how it may end: a failed read, and the bound of reads, are told as such, and the writer got what is said to the lines
-- that a line feed ended before; where a line was not answered, what is said to those before it, unless a write failed.
-- That no more lines can be taken is told only where one of the lines is why.
abbrev pub AuditsLog : {R W : Type 0} → AuditState → AuditState → SourceState R → SourceState R → SinkState W
    → SinkState W → Result AuditSum LinesFault → Type 0
AuditsLog old new from to before after (Ok sum) = IsAudited old new from to before after sum
AuditsLog old new from to before after (Err Read) =
    ServesEnded Auditing longest_line from to old new before after × ((to.failed ≡ true) ⊎ (to.left ≡ 0))
AuditsLog old new from to before after (Err (Line fault)) =
    (ServesSome (Leaves fault) Auditing longest_line from to old before after
    ⊎ IsUnended fault old new from to before after)
    × (fault ≡ Full → ServesFull Auditing longest_line from to old)
