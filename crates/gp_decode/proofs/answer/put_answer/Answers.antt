use Rattle.gp_decode.proofs.DecoderLemmas.{of_spelling}
use Rattle.gp_decode.proofs.answer.put_answer.Goals as goal

pub returns-in_ok-put_error_line-in-Err : goal.returns-in_ok-put_error_line-in-Err
returns-in_ok-put_error_line-in-Err c =
    of_spelling c.args.names c.args.upstream c.args.mask c.args.line c.args.digits.now c.put_error_line.new.out.items c.in-Err.fault c.in-Err.ensures.spelling
    (c.in-Err.ensures.fault c.args.mask) c.in_ok-put_error_line-in-Err.ensures
