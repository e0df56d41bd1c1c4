-- What is told of a line: the rules that are broken, or why it isn't audited (this profile's own rule).
use Rattle.std.specs.Prelude.{ℕ, ◌+◌, suc, List, [], ◌∷◌, slice_index}
use Rattle.std.specs.List.{flat_map}
use Rattle.gp_observer.specs.declared.rule.Rule.{Rule}
use Rattle.gp_observer.specs.Rules.{Settings}
use Rattle.gp_observer.specs.Watch.{Watch}
use Rattle.gp_log.specs.declared.said.Said.{Said}
use Rattle.gp_finding.specs.declared.error.AuditSum.{AuditSum}
use Rattle.gp_finding.specs.declared.push.FindingForm.{FindingForm}
use Rattle.gp_finding.specs.declared.push.FindingForm.TheVariants as findings
use Rattle.gp_finding.specs.declared.error.LineError.{LineError}
use Rattle.gp_finding.specs.declared.push.Place.{Place}
use Rattle.gp_finding.specs.Told.{told_error, told_finding}
use Rattle.gp_audit.specs.declared.options.AuditForm.{AuditForm}
use Rattle.gp_audit.specs.declared.options.AuditForm.TheVariants as forms
use Rattle.gp_audit.specs.declared.options.AuditOptions.{AuditOptions}

pub data Notice : Type 0 where
  -- a rule is broken by what is said at this place, by what is known before it
  Finding : (watch : Watch) (place : Place) (said : Said) (rule : Rule) → Notice
  -- why this line, or something said on it, isn't audited
  Fault : (line : ℕ) (error : LineError) → Notice

-- how findings are told
abbrev pub finding_form : AuditForm → FindingForm
finding_form forms.Text = findings.Text
finding_form forms.Words = findings.Text
finding_form forms.Json = findings.Json

-- what a port's delays are judged by
abbrev pub settings_at : AuditOptions → ℕ → Settings
settings_at options port = record { teqd = slice_index options.teqd port; drift = options.drift }

abbrev pub notice_text : AuditOptions → Notice → List ℕ
notice_text options (Finding watch place said rule) =
    told_finding (finding_form options.form) options.mask (settings_at options place.port) watch place said rule
notice_text options (Fault line error) = told_error (finding_form options.form) line error

-- one behind another
abbrev pub notices_text : AuditOptions → List Notice → List ℕ
notices_text options notices = flat_map (notice_text options) notices

-- how many are findings, and how many are errors
abbrev pub findings_among : List Notice → ℕ
findings_among [] = 0
findings_among (Finding watch place said rule ∷ notices) = suc (findings_among notices)
findings_among (Fault line error ∷ notices) = findings_among notices

abbrev pub errors_among : List Notice → ℕ
errors_among [] = 0
errors_among (Finding watch place said rule ∷ notices) = errors_among notices
errors_among (Fault line error ∷ notices) = suc (errors_among notices)

-- the sum with these
abbrev pub sum_with : AuditSum → List Notice → AuditSum
sum_with sum notices =
    record sum {
      findings = sum.findings + findings_among notices;
      errors = sum.errors + errors_among notices;
    }

-- the sum with one line more
abbrev pub sum_behind : AuditSum → AuditSum
sum_behind sum = record sum { lines = sum.lines + 1 }
