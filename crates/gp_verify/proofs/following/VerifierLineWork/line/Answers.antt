use Rattle.std.specs.Prelude.{is_some}
use Rattle.std.proofs.Common.{◌≡◌, ℕ, List, false, Some, rules, subst, sym}
use Rattle.std.proofs.lemmas.Result.{err_from_is_err_and}
use Rattle.gp_flow.proofs.AnswerLemmas.{put_stopped}
use Rattle.gp_verify.specs.Following.{Following}
use Rattle.gp_verify.specs.Report.{Reports}
use Rattle.gp_verify.proofs.FollowingLemmas.{followed_silently, is_none, told_line}
use Rattle.gp_verify.proofs.following.VerifierLineWork.line.Goals as goal

pub returns-in_err-put-in_default : goal.returns-in_err-put-in_default
returns-in_err-put-in_default g c =
    let p = err_from_is_err_and c.from_residual-in_err-put-in_default.result c.from_residual-in_err-put-in_default.ensures.1 in
    let on : is_some c.args.self.now.ended ≡ false = search rules in
    let judged = c.in_ok-verdict.ensures in
    rw (p.1, p.2) (put_stopped Following (Some c.args.text.now) _ _ c.judge.new.self _ _ _ _
    (told_line c.args.self.now c.judge.new.self c.args.text.now _ c.in_ok-verdict.verdict (is_none _ on) judged.judged judged.ends judged.lines judged.mask judged.form
    (subst (λ (t : List ℕ). Reports c.judge.new.self.form c.in_ok-verdict.verdict c.judge.new.self.lines c.judge.new.self c.args.text.now t) (sym c.as_slice.ensures.value) c.in_ok-report-in_default.ensures)) c.in_err-put-in_default.ensures)

pub returns-in-Follows : goal.returns-in-Follows
returns-in-Follows g c =
    let on : is_some c.args.self.now.ended ≡ false = search rules in
    let judged = c.in_ok-verdict.ensures in
    followed_silently c.args.self.now c.judge.new.self c.args.text.now c.args.sink.now c.in_ok-verdict.verdict (search rules) (is_none _ on) judged.judged judged.ends judged.lines judged.mask judged.form
