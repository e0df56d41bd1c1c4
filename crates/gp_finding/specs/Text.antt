-- What is told as text: a line of a finding, of an error, and of the sum (this profile's own rule).
use Rattle.std.specs.Prelude.{ℕ, ◌==◌, if◌then◌else◌, List, [], ◌++◌, codes, decimal}
use Rattle.gp_observer.specs.declared.rule.Rule.{Rule}
use Rattle.gp_observer.specs.Heard.{Heard}
use Rattle.gp_log.specs.declared.fault.LogFault.{LogFault}
use Rattle.gp_log.specs.declared.fault.LogFault.TheVariants as fault
use Rattle.gp_log.specs.declared.said.Said.{Said}
use Rattle.gp_finding.specs.declared.error.LineError.{LineError}
use Rattle.gp_finding.specs.declared.error.LineError.TheVariants as errors
use Rattle.gp_finding.specs.declared.error.AuditSum.{AuditSum}
use Rattle.gp_finding.specs.declared.push.Place.{Place}
use Rattle.gp_finding.specs.declared.why.Why.{Why}
use Rattle.gp_finding.specs.Names.{rule_name, side_name, side_of}
use Rattle.gp_finding.specs.Words.{said_text}
use Rattle.gp_finding.specs.Reason.{reason_text}

-- ---- a finding

-- the line, and the port where it isn't 0
abbrev pub place_text : Place → List ℕ
place_text place =
    if place.port == 0 then codes "line " ++ decimal place.line
    else codes "line " ++ decimal place.line ++ codes ", port " ++ decimal place.port

-- whose rule it is, and which
abbrev pub rule_text : Heard → Rule → List ℕ
rule_text heard rule = codes ": " ++ side_name (side_of heard) ++ codes " " ++ rule_name rule ++ codes ": "

-- a rule that is broken by what is heard where this was said
abbrev pub finding_text : Place → Said → Heard → Rule → Why → List ℕ
finding_text place said heard rule why =
    place_text place ++ rule_text heard rule ++ said_text said heard ++ codes ", " ++ reason_text why ++ codes "\n"

-- ---- an error

abbrev pub fault_name : LogFault → List ℕ
fault_name fault.Word = codes "word"
fault_name fault.Number = codes "number"
fault_name fault.Code = codes "code"
fault_name fault.Time = codes "time"
fault_name fault.Long = codes "long"

abbrev pub error_name : LineError → List ℕ
error_name (errors.Log fault) = fault_name fault
error_name errors.Time = codes "time"
error_name errors.Full = codes "full"

abbrev pub error_text : ℕ → LineError → List ℕ
error_text line error = codes "error " ++ decimal line ++ codes " " ++ error_name error ++ codes "\n"

-- ---- the sum

-- so many of a thing: one has its own word
abbrev pub counted_text : ℕ → List ℕ → List ℕ → List ℕ
counted_text count one many = if count == 1 then codes "1 " ++ one else decimal count ++ codes " " ++ many

-- errors are told where there are some
abbrev pub errors_text : ℕ → List ℕ
errors_text errors =
    if errors == 0 then [] else codes ", " ++ counted_text errors (codes "error") (codes "errors")

abbrev pub sum_text : AuditSum → List ℕ
sum_text sum =
    counted_text sum.lines (codes "line") (codes "lines") ++ codes ", "
    ++ counted_text sum.findings (codes "finding") (codes "findings")
    ++ errors_text sum.errors
    ++ codes "\n"
