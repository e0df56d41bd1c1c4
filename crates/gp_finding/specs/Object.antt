-- What is told as JSON: an object of a finding, of an error, and of the sum, each on a line of its own (this profile's
-- own rule). In their texts nothing has to be escaped (RFC 8259): they are printable, with no quotation mark in them.
use Rattle.std.specs.Prelude.{ℕ, List, ◌++◌, Option, None, Some, codes, decimal}
use Rattle.gp_ploam.specs.declared.message.Serial.{Serial}
use Rattle.gp_serial.specs.Spelling.{text_of_serial}
use Rattle.gp_observer.specs.declared.rule.Rule.{Rule}
use Rattle.gp_observer.specs.Watch.{Watch}
use Rattle.gp_observer.specs.Heard.{Heard}
use Rattle.gp_finding.specs.declared.error.LineError.{LineError}
use Rattle.gp_finding.specs.declared.error.AuditSum.{AuditSum}
use Rattle.gp_finding.specs.declared.push.Place.{Place}
use Rattle.gp_finding.specs.declared.why.Why.{Why}
use Rattle.gp_finding.specs.Names.{rule_name, side_name, side_of}
use Rattle.gp_finding.specs.Words.{onu_in, serial_told, words_of}
use Rattle.gp_finding.specs.Reason.{reason_text}
use Rattle.gp_finding.specs.Text.{error_name}

-- a text between quotation marks, or null
abbrev pub text_or_null : Option (List ℕ) → List ℕ
text_or_null None = codes "null"
text_or_null (Some text) = codes "\"" ++ text ++ codes "\""

-- the unit that is named: its ONU-ID, and its serial number
abbrev pub onu_field : Option ℕ → List ℕ
onu_field None = codes ",\"onu\":null"
onu_field (Some onu) = codes ",\"onu\":" ++ decimal onu

abbrev pub serial_field : Option Serial → List ℕ
serial_field None = codes ",\"serial\":null"
serial_field (Some serial) = codes ",\"serial\":\"" ++ text_of_serial serial ++ codes "\""

-- the line and the port, whose rule it is and which, and the name of what stands behind
abbrev pub head_fields : Place → Heard → Rule → List ℕ
head_fields place heard rule =
    codes "{\"line\":" ++ decimal place.line ++ codes ",\"port\":" ++ decimal place.port ++ codes ",\"side\":\""
    ++ side_name (side_of heard)
    ++ codes "\",\"rule\":\""
    ++ rule_name rule
    ++ codes "\",\"message\":"

-- a rule that is broken by what is heard, by what is known before it
abbrev pub finding_object : Watch → Place → Heard → Rule → Why → List ℕ
finding_object watch place heard rule why =
    head_fields place heard rule ++ text_or_null (words_of heard) ++ onu_field (onu_in heard)
    ++ serial_field (serial_told watch heard)
    ++ codes ",\"why\":\""
    ++ reason_text why
    ++ codes "\"}\n"

abbrev pub error_object : ℕ → LineError → List ℕ
error_object line error =
    codes "{\"error\":\"" ++ error_name error ++ codes "\",\"line\":" ++ decimal line ++ codes "}\n"

abbrev pub sum_object : AuditSum → List ℕ
sum_object sum =
    codes "{\"lines\":" ++ decimal sum.lines ++ codes ",\"findings\":" ++ decimal sum.findings ++ codes ",\"errors\":"
    ++ decimal sum.errors
    ++ codes "}\n"
