-- What is known of a line that was read.
-- Inside: no public contract cites this.
use Rattle.std.specs.Prelude.{◌<◌, List, ℕ, Result, Ok, Err, ⊤}
use Rattle.gp_machine.specs.Config.{max_ports}
use Rattle.gp_log.specs.declared.fault.LogFault.{LogFault}
use Rattle.gp_log.specs.declared.line.LogLine.{LogLine}
use Rattle.gp_log.specs.declared.line.LogLine.TheVariants as line
use Rattle.gp_log.specs.Line.{IsTraceLine}

-- its port is one that there may be
abbrev pub IsNear : Result LogLine LogFault → Type 0
IsNear (Ok line.Remark) = ⊤
IsNear (Ok (line.Log port time said)) = port < max_ports
IsNear (Ok (line.Trace port is_frame first second)) = port < max_ports
IsNear (Err fault) = ⊤

-- where it is read as one of a trace, it is one
abbrev pub IsTraced : List ℕ → Result LogLine LogFault → Type 0
IsTraced text (Ok line.Remark) = ⊤
IsTraced text (Ok (line.Log port time said)) = ⊤
IsTraced text (Ok (line.Trace port is_frame first second)) = IsTraceLine text
IsTraced text (Err fault) = ⊤
