use Rattle.std.proofs.Common.{◌++◌, codes, decimal, append_assoc}
use Rattle.gp_decode.proofs.Appending.{appends_no_first, appends_second}
use Rattle.gp_decode.proofs.append.push_numbers.Goals as goal

pub returns-in_err-push_numbered : goal.returns-in_err-push_numbered
returns-in_err-push_numbered c =
    appends_no_first _ _ (codes " " ++ decimal c.args.second) _ _ _ _ c.in_err-push_numbered.field-0.0 _
    (append_assoc (c.args.word.now ++ decimal c.args.first) (codes " ") (decimal c.args.second))
    c.in_err-push_numbered.was c.from_residual.ensures.1 c.push_numbered.ensures

pub returns : goal.returns
returns c =
    appends_second _ _ (codes " " ++ decimal c.args.second) _ _ _ _ _ c.in_ok-push_numbered.field-0
    (append_assoc (c.args.word.now ++ decimal c.args.first) (codes " ") (decimal c.args.second))
    c.in_ok-push_numbered.was c.push_numbered.ensures c.push_numbered-2.ensures
