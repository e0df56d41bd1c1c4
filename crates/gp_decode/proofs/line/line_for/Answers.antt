use Rattle.std.proofs.Common.{◌≡◌, length, rules}
use Rattle.std.proofs.lemmas.Result.{err_from_is_err_and}
use Rattle.gp_decode.specs.declared.fault.DecodeFault.TheVariants as fault
use Rattle.gp_decode.proofs.LineLemmas.{lacks_line, lacks_memory, lacks_words}
use Rattle.gp_decode.proofs.line.line_for.Goals as goal

pub returns-in_err-code-clause-fault : goal.returns-in_err-code-clause-fault
returns-in_err-code-clause-fault c =
    let p = err_from_is_err_and c.from_residual.result c.from_residual.ensures.1 in
    rw (p.1, p.2) (lacks_line c.args.upstream c.args.mask c.args.text.now c.in_err-code.field-0.0 (c.in_err-code.ensures.fault c.args.mask))

pub returns-in_err-push_words_in-clause-fault : goal.returns-in_err-push_words_in-clause-fault
returns-in_err-push_words_in-clause-fault c =
    let p = err_from_is_err_and c.from_residual-in_err-push_words_in.result c.from_residual-in_err-push_words_in.ensures.1 in
    let long : length c.in_ok-code.code ≡ 13 = search rules in
    rw (p.1, p.2) (lacks_words c.args.upstream c.args.mask c.args.text.now c.in_ok-code.code c.in_err-push_words_in.field-0.0 c.in_ok-code.ensures.code long c.in_err-push_words_in.ensures.fault)

pub returns-in_err-extend_from_slice-clause-fault : goal.returns-in_err-extend_from_slice-clause-fault
returns-in_err-extend_from_slice-clause-fault c =
    let p = err_from_is_err_and c.from_residual-in_err-extend_from_slice.result c.from_residual-in_err-extend_from_slice.ensures.1 in
    let long : length c.in_ok-code.code ≡ 13 = search rules in
    let words = c.in_ok-push_words_in.ensures.words in
    rw (p.1, p.2) (lacks_words c.args.upstream c.args.mask c.args.text.now c.in_ok-code.code fault.OutOfMemory c.in_ok-code.ensures.code long
    (lacks_memory c.args.names c.args.upstream c.args.mask c.in_ok-code.code words.0 words.1))
