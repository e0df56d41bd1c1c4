-- What the sum counts.
use Rattle.std.proofs.Common.{◌≡◌, ◌≢◌, ℕ, List, [], ◌∷◌, ◌++◌, Option, None, Some, Result, refl, sym, ap, subst, ◌∙◌, arith}
use Rattle.gp_flow.specs.Lines.{DoesAll}
use Rattle.gp_ploam.specs.declared.check.Mask.{Mask}
use Rattle.gp_log.specs.declared.fault.LogFault.{LogFault}
use Rattle.gp_log.specs.declared.line.LogLine.{LogLine}
use Rattle.gp_log.specs.Line.{text_of}
use Rattle.line_columns.specs.Layout.{LayoutState, plain_of}
use Rattle.gp_audit.specs.declared.options.AuditForm.{AuditForm}
use Rattle.gp_audit.specs.declared.options.AuditForm.TheVariants as forms
use Rattle.gp_audit.specs.declared.options.AuditOptions.{AuditOptions}
use Rattle.gp_audit.specs.Again.{TellsAgain}
use Rattle.gp_audit.specs.Audit.{AuditState, Auditing, TellsLineAgain, audit_after, next_told}
use Rattle.gp_audit.specs.Notice.{notices_text}
use Rattle.gp_audit.specs.Outcome.{Counts}
use Rattle.gp_audit.proofs.BookLemmas.{errors_more, findings_more, text_more}

-- in other forms no line is told again
silent : (form : AuditForm) (mask : Mask) (text : List ℕ) (read : Result LogLine LogFault) (again : List ℕ) → form ≢ forms.Words → TellsAgain form mask text read again → again ≡ []
silent forms.Text mask text read again other h = h
silent forms.Words mask text read again other h = absurd (other refl)
silent forms.Json mask text read again other h = h

line_silent : (options : AuditOptions) (layout : LayoutState) (line : Option (List ℕ)) (read : Result LogLine LogFault) (again : List ℕ) → options.form ≢ forms.Words
    → TellsLineAgain options layout line read again
    → again ≡ []
line_silent options layout None read again other h = h
line_silent options layout (Some line) read again other h = silent options.form options.mask (text_of (plain_of layout line)) read again other h

pub counts : (lines : List (Option (List ℕ))) (old new : AuditState) (said : List ℕ) → DoesAll Auditing old lines said new → Counts old lines said new
counts [] old new said h =
    let same = h.1 in record {
      notices = [];
      told = (refl, h.1);
      lines_are = let many = ap (λ (s : AuditState). s.sum.lines) same in omega (arith, many);
      findings_are = let many = ap (λ (s : AuditState). s.sum.findings) same in omega (arith, many);
      errors_are = let many = ap (λ (s : AuditState). s.sum.errors) same in omega (arith, many);
      text = λ other. h.0;
    }
counts (line ∷ lines) old new said h =
    let read = h.3.0 in
    let says = h.3.2 in
    let here = next_told old read in
    let c = counts lines (audit_after old read) new h.1 (subst (λ (s : AuditState). DoesAll Auditing s lines h.1 new) says.next h.4) in
    record {
      notices = here ++ c.notices;
      told = (read, c.notices, h.3.1, c.told, refl);
      lines_are = let many = c.lines_are in omega (arith, many);
      findings_are = let many = c.findings_are in let more = findings_more here c.notices in omega (arith, many, more);
      errors_are = let many = c.errors_are in let more = errors_more here c.notices in omega (arith, many, more);
      text = λ other.
          h.5
          ∙ ap (λ (l : List ℕ). l ++ h.1) (says.said_is ∙ ap (λ (l : List ℕ). l ++ notices_text old.options here) (line_silent old.options old.layout line read says.again other says.tells))
          ∙ ap (λ (l : List ℕ). notices_text old.options here ++ l) (c.text other)
          ∙ sym (text_more old.options here c.notices);
    }
