use Rattle.std.proofs.Common.{◌≡◌, ◌≤◌, ℕ, ◌+◌, ◌-◌, ap, arith, refl, rules}
use Rattle.std.proofs.lemmas.Result.{err_from_is_err_and}
use Rattle.gp_drive.specs.Turns.{cost_of}
use Rattle.gp_drive.proofs.AnswerLemmas.{hands_from, played, plays_into, unended, unplayed}
use Rattle.gp_drive.proofs.driver.Driver.play.Goals as goal

pub returns-in-Err-clause-answers : goal.returns-in-Err-clause-answers
returns-in-Err-clause-answers g c =
    rw (c.line_fault.ensures, ← c.self.view_is) (unplayed g.P.EventPlayer.playing c.args.asked _ _ _ _ _ _ (plays_into _ _ _ _ _ _ _ _ _ (search rules) c.in-Err.ensures.plays))

pub returns-in_err-put_behind-in-Ok-clause-answers : goal.returns-in_err-put_behind-in-Ok-clause-answers
returns-in_err-put_behind-in-Ok-clause-answers g c =
    let p = err_from_is_err_and c.from_residual.result c.from_residual.ensures.1 in
    let over = c.if-self-cost.false in
    let is = c.cost_of-cost.ensures in
    let enough : cost_of c.args.asked ≤ c.self.inside.left = omega (arith, over, is) in
    rw (p.1, p.2, ← c.self.view_is)
    (unended g.P.EventPlayer.playing c.args.asked c.in-Ok.told _ _ _ _ _ _ _ _ enough c.in-Ok.ensures.plays (hands_from _ _ _ _ _ (search rules) c.in_err-put_behind-in-Ok.ensures))

pub returns-in_ok-put_behind-in-Ok-clause-answers : goal.returns-in_ok-put_behind-in-Ok-clause-answers
returns-in_ok-put_behind-in-Ok-clause-answers g c =
    let over = c.if-self-cost.false in
    let is = c.cost_of-cost.ensures in
    let left : (c.self.inside.left - c.cost_of-cost.result) + cost_of c.args.asked ≡ c.self.inside.left = omega (arith, over, is) in
    let errors = ap (λ (n : ℕ). c.self.inside.errors + n) c.errors_of.ensures in
    rw (← c.self.view_is)
    (played g.P.EventPlayer.playing c.args.asked c.in-Ok.told _ _ _ _ _ _ _ _ refl refl refl refl errors left c.in-Ok.ensures.plays (hands_from _ _ _ _ _ (search rules) c.in_ok-put_behind-in-Ok.ensures))
