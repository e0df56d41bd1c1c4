-- What is read is no line of a trace.
-- Inside: no public contract cites this.
use Rattle.std.specs.Prelude.{Result, Ok, Err, ⊤}
use Rattle.gp_log.specs.declared.fault.LogFault.{LogFault}
use Rattle.gp_log.specs.declared.line.LogLine.{LogLine}
use Rattle.gp_log.specs.declared.line.LogLine.TheVariants as line

-- it says nothing, or is a line of a log
abbrev pub IsOtherLine : LogLine → Type 0
IsOtherLine line.Remark = ⊤
IsOtherLine (line.Log port time said) = ⊤
IsOtherLine (line.Trace port is_frame first second) = ⊥

-- so it is, or it has a fault
abbrev pub IsOther : Result LogLine LogFault → Type 0
IsOther (Ok read) = IsOtherLine read
IsOther (Err fault) = ⊤
