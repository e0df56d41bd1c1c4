use Rattle.std.proofs.Common.{◌++◌, codes, decimal, append_assoc, ◌∙◌}
use Rattle.gp_decode.specs.Message.{keep_text}
use Rattle.gp_decode.proofs.Appending.{appends_no_first, appends_second, appends_slice}
use Rattle.gp_decode.proofs.append.push_alloc.Goals as goal

pub returns-in_err-push_numbers : goal.returns-in_err-push_numbers
returns-in_err-push_numbers c =
    appends_no_first _ _ (codes " " ++ keep_text c.args.keep) _ _ _ _ c.in_err-push_numbers.field-0.0 _
    (append_assoc (c.args.word.now ++ decimal c.args.first ++ codes " " ++ decimal c.args.second) (codes " ") (keep_text c.args.keep))
    c.in_err-push_numbers.was c.from_residual.ensures.1 c.push_numbers.ensures

pub returns : goal.returns
returns c =
    let e = c.extend_from_slice.ensures in
    appends_second _ _ (codes " " ++ keep_text c.args.keep) _ _ _ _ _ c.in_ok-push_numbers.field-0
    (append_assoc (c.args.word.now ++ decimal c.args.first ++ codes " " ++ decimal c.args.second) (codes " ") (keep_text c.args.keep))
    c.in_ok-push_numbers.was c.push_numbers.ensures
    (appends_slice _ (codes " " ++ keep_text c.args.keep) _ _ _ (c.as_bytes.ensures.value ∙ c.keep_word.ensures) e.items e.capacity e.full)
