-- Why nothing is said of a line.
-- Inside: no public contract cites this.
use Rattle.gp_flow.specs.declared.fault.Unanswered.{Unanswered}
use Rattle.gp_flow.specs.declared.fault.Unanswered.TheVariants as lines
use Rattle.gp_watch.specs.declared.fault.WatchFault.{WatchFault}
use Rattle.gp_watch.specs.declared.fault.WatchFault.TheVariants as watches
use Rattle.gp_audit.specs.declared.fault.AuditFault.{AuditFault}
use Rattle.gp_audit.specs.declared.fault.AuditFault.TheVariants as audits

abbrev pub of_watch : WatchFault → AuditFault
of_watch watches.OutOfMemory = audits.OutOfMemory
of_watch watches.Full = audits.Full

abbrev pub unanswered : AuditFault → Unanswered
unanswered audits.OutOfMemory = lines.OutOfMemory
unanswered audits.Full = lines.Full
