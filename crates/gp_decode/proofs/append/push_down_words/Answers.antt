use Rattle.std.proofs.Common.{refl}
use Rattle.std.proofs.lemmas.Result.{err_from_is_err_and}
use Rattle.gp_decode.specs.Message.{down_text}
use Rattle.gp_decode.proofs.append.push_down_words.Goals as goal

pub returns-in_err-push_down_in-clause-fault : goal.returns-in_err-push_down_in-clause-fault
returns-in_err-push_down_in-clause-fault c =
    let p = err_from_is_err_and c.from_residual-in_err-push_down_in.result c.from_residual-in_err-push_down_in.ensures.1 in
    rw (p.1, p.2) (down_text c.in_ok-message.message, (c.in_ok-message.message, c.in_ok-message.ensures.read, refl))
