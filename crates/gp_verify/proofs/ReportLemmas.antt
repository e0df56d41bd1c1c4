-- What is told of the line that can't be, in words.
use Rattle.std.proofs.Common.{◌≡◌, ℕ, List, [], ◌++◌, Result, Ok, Err, IfOk, ap, sym, subst, ◌∙◌}
use Rattle.std.specs.Global.{Vec}
use Rattle.gp_ploam.specs.declared.check.Mask.{Mask}
use Rattle.gp_differ.specs.Reasons.{IsReason}
use Rattle.gp_explain.specs.declared.form.Form.{Form}
use Rattle.gp_explain.specs.declared.form.Form.TheVariants.{Words}
use Rattle.gp_verify.specs.declared.verdict.Verdict.{Verdict}
use Rattle.gp_verify.specs.Report.{Explains, IsInWords, TellsFor, TellsLine, both_lines, left_behind, line_alone, without_feed}
use Rattle.gp_verify.specs.Verdicts.{VerifyState}

-- a line in words, in its steps
pub line_in_words : {E : Type 0} (r : Result (Vec ℕ) E) (state : VerifyState) (verdict : Verdict) (line : ℕ) (text shown held reason : List ℕ) → held ≡ shown
    → IsInWords state.mask text shown → IfOk r (λ report. report.items ≡ line_alone line held reason) → IfOk r (λ report. TellsLine Words verdict line state text reason report.items)
line_in_words (Ok x) state verdict line text shown held reason same words is = (held, subst (IsInWords state.mask text) (sym same) words, is)
line_in_words (Err e) state verdict line text shown held reason same words is = tt

-- why a line is another, in its steps
pub explained : (state : VerifyState) (mask : Mask) (left : ℕ) (text said bare start new reason : List ℕ) → mask ≡ state.mask → left ≡ left_behind state → said ≡ state.said → bare ≡ without_feed said → start ≡ []
    → IsReason mask left text bare reason → new ≡ start ++ reason → Explains state text new
explained state mask left text said bare start new reason same owed is without empty why grown =
    subst (λ (r : List ℕ). Explains state text r) (sym (grown ∙ ap (λ (l : List ℕ). l ++ reason) empty))
    (subst (λ (m : Mask). IsReason m (left_behind state) text (without_feed state.said) reason) same
    (subst (λ (n : ℕ). IsReason mask n text (without_feed state.said) reason) owed (subst (λ (l : List ℕ). IsReason mask left text l reason) (without ∙ ap without_feed is) why)))

-- both lines in words, in their steps
pub both_in_words : {E : Type 0} (r : Result (Vec ℕ) E) (state : VerifyState) (line : ℕ) (text shown held machine kept bare said reason : List ℕ) → held ≡ shown → kept ≡ machine
    → bare ≡ without_feed state.said → said ≡ state.said → IsInWords state.mask text shown → IsInWords state.mask bare machine
    → IfOk r (λ report. report.items ≡ both_lines line held kept said reason) → IfOk r (λ report. (verdict : Verdict) → TellsFor Words verdict line state text reason report.items)
both_in_words (Ok x) state line text shown held machine kept bare said reason same also without is words told all = λ verdict. (
  held,
  kept,
  subst (IsInWords state.mask text) (sym same) words,
  subst (λ (l : List ℕ). IsInWords state.mask l kept) without (subst (IsInWords state.mask bare) (sym also) told),
  subst (λ (l : List ℕ). x.items ≡ both_lines line held kept l reason) is all,
)
both_in_words (Err e) state line text shown held machine kept bare said reason same also without is words told all = tt

-- what is told by one form is told by the form that is this one
pub told_as : {E : Type 0} (r : Result (Vec ℕ) E) (form kind : Form) (state : VerifyState) (v : Verdict) (line : ℕ) (text reason : List ℕ) → form ≡ kind
    → IfOk r (λ report. (verdict : Verdict) → TellsFor kind verdict line state text reason report.items) → IfOk r (λ report. TellsFor form v line state text reason report.items)
told_as (Ok x) form kind state v line text reason is h = subst (λ (f : Form). TellsFor f v line state text reason x.items) (sym is) (h v)
told_as (Err e) form kind state v line text reason is h = tt
