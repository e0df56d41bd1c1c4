-- What is said of the line at hand, and how many of each there were.
-- Inside: no public contract cites this.
use Rattle.std.specs.Prelude.{◌≡◌, ◌++◌, ◌⊎◌, List}
use Rattle.gp_finding.specs.declared.error.AuditSum.{AuditSum}
use Rattle.gp_audit.specs.declared.book.Book.{Book}
use Rattle.gp_audit.specs.declared.options.AuditOptions.{AuditOptions}
use Rattle.gp_audit.specs.declared.fault.AuditFault.{AuditFault}
use Rattle.gp_audit.specs.declared.fault.AuditFault.TheVariants.{OutOfMemory, Full}
use Rattle.gp_audit.specs.Failing.{Overcounts}
use Rattle.gp_audit.specs.Notice.{Notice, notices_text, sum_with}

-- these were told behind what was said before
pub record TellsNotices (options : AuditOptions) (notices : List Notice) (old new : Book) : Type 0 where
  pub said : new.said.items ≡ old.said.items ++ notices_text options notices
  pub sum : new.sum ≡ sum_with old.sum notices

-- why these were not all told behind this sum, and what they are told of noted: there is no memory; or a count can't go
-- on, of the sum or of what is noted
abbrev pub TellingFails : AuditSum → List Notice → Type 0 → AuditFault → Type 0
TellingFails sum notices uncounted OutOfMemory = Unit {0}
TellingFails sum notices uncounted Full = Overcounts sum notices ⊎ uncounted
