use Rattle.std.proofs.Common.{rules}
use Rattle.gp_finding.proofs.Telling.{words_begun, words_told}
use Rattle.gp_finding.proofs.words.push_code.Goals as goal

pub returns-in-Ok : goal.returns-in-Ok
returns-in-Ok c =
    words_told c.args.upstream c.args.mask c.args.code.now _ _ c.fits-code c.in-Ok.ensures.words c.push_words_of.ensures.capacity

pub returns-in-Err-OutOfMemory : goal.returns-in-Err-OutOfMemory
returns-in-Err-OutOfMemory c =
    words_begun c.args.upstream c.args.mask c.args.code.now _ _ _ c.fits-code (c.push_words_of.ensures.part (search rules)) (c.push_words_of.ensures.room (search rules))
    c.push_words_of.ensures.capacity
