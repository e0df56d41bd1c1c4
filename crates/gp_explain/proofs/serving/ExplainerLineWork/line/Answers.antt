use Rattle.std.proofs.Common.{rules}
use Rattle.gp_explain.specs.Explaining.{counted}
use Rattle.gp_explain.proofs.ServingLemmas.{IsUncut, by_none, refused_line, stopped_line}
use Rattle.gp_explain.proofs.serving.ExplainerLineWork.line.Goals as goal

pub returns-in_default : goal.returns-in_default
returns-in_default g c =
    let uncut : IsUncut c.args.text.now = by_none c.split_line.result (search rules) c.split_line.ensures.none in
    refused_line _ _ c.args.text.now _ (search rules) uncut (search rules)

pub returns-in_err-put : goal.returns-in_err-put
returns-in_err-put g c =
    stopped_line {T = Unit {0}} c.args.self.now _ (counted c.tell_line.new.self c.args.self.now) c.tell_line.new.self c.args.text.now c.as_slice.result.now _ _ _ _ (search rules) (search rules) (search rules) (search rules) (search rules)
