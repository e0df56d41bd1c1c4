use Rattle.std.specs.Prelude.{is_some}
use Rattle.std.proofs.Common.{◌≡◌, ℕ, List, false, Some, ap, rules, subst, sym}
use Rattle.std.proofs.lemmas.Result.{err_from_is_err_and}
use Rattle.gp_flow.proofs.AnswerLemmas.{put_answers, put_stopped, silent_answers}
use Rattle.gp_verify.specs.Report.{Reports}
use Rattle.gp_verify.proofs.FollowingLemmas.{is_none}
use Rattle.gp_verify.specs.Verdicts.{VerifyState}
use Rattle.gp_summed.specs.Verifying.{CountingVerifyState, JudgesCounting}
use Rattle.gp_summed.proofs.CountedLines.{counts_told, follows_silently}
use Rattle.gp_summed.proofs.counting_verifier.CountingVerifierLineWork.line.Goals as goal
use Rattle.gp_summed.proofs.counting_verifier.CountingVerifierLineWork.line.Goals.{in-Follows, in_default+in_ok-report-in_default+in_ok-put-in_default}

pub returns-in_err-put-in_default : goal.returns-in_err-put-in_default
returns-in_err-put-in_default g c =
    let p = err_from_is_err_and c.from_residual-in_err-put-in_default.result c.from_residual-in_err-put-in_default.ensures.1 in
    let on : is_some c.args.self.now.verify.ended ≡ false = search rules in
    let new = c.judge.new.self in
    let judged = c.in_ok-verdict.ensures in
    let same : c.self-2.inside.verifier ≡ new.verify = ap (λ (s : CountingVerifyState). s.verify) c.self-2.view_is in
    let told = subst (λ (t : List ℕ). Reports new.verify.form c.in_ok-verdict.verdict new.verify.lines new.verify c.args.text.now t) (sym c.as_slice.ensures.value)
    (subst (λ (s : VerifyState). Reports s.form c.in_ok-verdict.verdict s.lines s c.args.text.now c.in_ok-report-in_default.report.items) same c.in_ok-report-in_default.ensures) in
    rw (p.1, p.2) (put_stopped JudgesCounting (Some c.args.text.now) c.args.self.now new new c.args.sink.now c.put.new.self _ _
    (counts_told c.args.self.now new c.args.text.now _ c.in_ok-verdict.verdict (is_none _ on) judged.judged judged.ends judged.lines judged.mask judged.form judged.taken judged.follows told)
    c.in_err-put-in_default.ensures)

pub returns : goal.returns
returns g c =
    let on : is_some c.args.self.now.verify.ended ≡ false = search rules in
    let old = c.args.self.now in
    let new = c.judge.new.self in
    let text = c.args.text.now in
    let verdict = c.in_ok-verdict.verdict in
    let judged = c.in_ok-verdict.ensures in
    let same : c.self-2.inside.verifier ≡ new.verify = ap (λ (s : CountingVerifyState). s.verify) c.self-2.view_is in
    elim c.match-branch-2.branch [
      | in-Follows w ↦
          rw (w.sink-is, w.result-is)
          (silent_answers JudgesCounting (Some text) old new c.args.sink.now tt
          (follows_silently old new text verdict (search rules) (is_none _ on) judged.judged judged.ends judged.lines judged.mask judged.form judged.taken judged.follows))
      | in_default+in_ok-report-in_default+in_ok-put-in_default w ↦
          rw (w.sink-is, w.result-is)
          (put_answers JudgesCounting (Some text) old new c.args.sink.now _ _ _ tt
          (counts_told old new text _ verdict (is_none _ on) judged.judged judged.ends judged.lines judged.mask judged.form judged.taken judged.follows
          (subst (λ (t : List ℕ). Reports new.verify.form verdict new.verify.lines new.verify text t) (sym w.as_slice.ensures.value)
          (subst (λ (s : VerifyState). Reports s.form verdict s.lines s text w.in_ok-report-in_default.report.items) same w.in_ok-report-in_default.ensures)))
          w.in_ok-put-in_default.ensures)
    ]
