-- Why a line was not judged, as the reader of lines is told it.
use Rattle.gp_flow.specs.declared.fault.Unanswered.{Unanswered}
use Rattle.gp_flow.specs.declared.fault.Unanswered.TheVariants as lines
use Rattle.gp_verify.specs.declared.fault.LineRefusal.{LineRefusal}
use Rattle.gp_verify.specs.declared.fault.LineRefusal.TheVariants.{OutOfMemory, Full}

abbrev pub line_fault : LineRefusal → Unanswered
line_fault OutOfMemory = lines.OutOfMemory
line_fault Full = lines.Full
