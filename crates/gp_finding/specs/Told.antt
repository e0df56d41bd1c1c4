-- What is told, as text or as JSON (this profile's own rule).
use Rattle.std.specs.Prelude.{ℕ, List}
use Rattle.gp_ploam.specs.declared.check.Mask.{Mask}
use Rattle.gp_observer.specs.declared.rule.Rule.{Rule}
use Rattle.gp_observer.specs.Watch.{Watch}
use Rattle.gp_observer.specs.Rules.{Settings}
use Rattle.gp_observer.specs.Heard.{Heard}
use Rattle.gp_log.specs.declared.said.Said.{Said}
use Rattle.gp_finding.specs.declared.error.LineError.{LineError}
use Rattle.gp_finding.specs.declared.error.AuditSum.{AuditSum}
use Rattle.gp_finding.specs.declared.push.FindingForm.{FindingForm}
use Rattle.gp_finding.specs.declared.push.FindingForm.TheVariants as forms
use Rattle.gp_finding.specs.declared.push.Place.{Place}
use Rattle.gp_finding.specs.Hearing.{heard_in}
use Rattle.gp_finding.specs.Why.{why_of}
use Rattle.gp_finding.specs.Text.{error_text, finding_text, sum_text}
use Rattle.gp_finding.specs.Object.{error_object, finding_object, sum_object}

-- a rule that is broken by what is heard where this was said, by what is known before it
abbrev pub told_heard : FindingForm → Mask → Settings → Watch → Place → Said → Heard → Rule → List ℕ
told_heard forms.Text mask settings watch place said heard rule =
    finding_text place said heard rule (why_of mask settings watch said heard rule)
told_heard forms.Json mask settings watch place said heard rule =
    finding_object watch place heard rule (why_of mask settings watch said heard rule)

-- a rule that is broken by what is said at a place, by what is known before it
unfoldable pub told_finding : FindingForm → Mask → Settings → Watch → Place → Said → Rule → List ℕ
told_finding form mask settings watch place said rule =
    told_heard form mask settings watch place said (heard_in mask said) rule

-- a line that is not audited
unfoldable pub told_error : FindingForm → ℕ → LineError → List ℕ
told_error forms.Text line error = error_text line error
told_error forms.Json line error = error_object line error

-- the sum of all lines
unfoldable pub told_sum : FindingForm → AuditSum → List ℕ
told_sum forms.Text sum = sum_text sum
told_sum forms.Json sum = sum_object sum
