-- What the program says on standard error where a trace was to be told in words, or words to be encoded, and its exit
-- status (this profile's own rule).
use Rattle.std.specs.Prelude.{ℕ, List, codes}
use Rattle.gp_flow.specs.declared.fault.LinesFault.{LinesFault}
use Rattle.gp_flow.specs.declared.fault.LinesFault.TheVariants as reading
use Rattle.gp_explain.specs.declared.fault.ExplainFault.{ExplainFault}
use Rattle.gp_explain.specs.declared.fault.ExplainFault.TheVariants as explains
use Rattle.gp_explain.specs.declared.fault.NoLine.{NoLine}
use Rattle.gp_explain.specs.declared.fault.NoLine.TheVariants as none
use Rattle.gp_encode.specs.declared.fault.WordsFault.{WordsFault}
use Rattle.gp_encode.specs.declared.fault.WordsFault.TheVariants as words
use Rattle.gp_lines.specs.declared.fault.LineFault.{LineFault as PartFault}
use Rattle.gp_lines.specs.declared.fault.LineFault.TheVariants as parts
use Rattle.gp_report.specs.declared.status.TheConstants.{BAD_INPUT}
use Rattle.gp_report.specs.Report.{unanswered_line, unanswered_status}

-- not all lines of an input were answered
abbrev pub input_line : LinesFault → List ℕ
input_line reading.Read = codes "oltctl: read"
input_line (reading.Line fault) = unanswered_line fault

-- its exit status
abbrev pub input_status : LinesFault → ℕ
input_status reading.Read = BAD_INPUT
input_status (reading.Line fault) = unanswered_status fault

-- a line that is none of a trace, as a verification tells it too
abbrev pub none_line : NoLine → List ℕ
none_line none.NotALine = codes "oltctl: no line of a trace"
none_line none.TooLong = codes "oltctl: line too long"

-- an explanation that ended with a fault, without the number of the line
abbrev pub explain_line : ExplainFault → List ℕ
explain_line (explains.Refused line why) = none_line why
explain_line (explains.Lines fault) = input_line fault

-- its exit status
abbrev pub explain_status : ExplainFault → ℕ
explain_status (explains.Refused line why) = BAD_INPUT
explain_status (explains.Lines fault) = input_status fault

-- a part of words that has a fault
abbrev pub part_line : PartFault → List ℕ
part_line parts.Word = codes "oltctl: encode word"
part_line parts.Number = codes "oltctl: encode number"
part_line parts.Serial = codes "oltctl: encode serial"
part_line parts.Hex = codes "oltctl: encode hex"
part_line parts.Range = codes "oltctl: encode range"
part_line parts.Long = codes "oltctl: encode long"
part_line parts.Space = codes "oltctl: encode space"

-- words that have no code; the status is that of bad input
abbrev pub words_line : WordsFault → List ℕ
words_line (words.Part fault) = part_line fault
words_line words.Named = codes "oltctl: encode named"
