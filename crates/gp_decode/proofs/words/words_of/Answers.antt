use Rattle.std.proofs.Common.{sym, subst, arith}
use Rattle.std.specs.Str.{IsAscii}
use Rattle.std.proofs.lemmas.Str.{IsUtf8-from_ascii}
use Rattle.gp_decode.proofs.Ascii.{words_ascii}
use Rattle.gp_decode.proofs.words.words_of.Goals as goal

pub unreachable-requires : goal.unreachable-requires
unreachable-requires c =
    let told = c.in_ok-push_words_of.ensures.words in
    let ascii = words_ascii c.args.upstream c.args.mask c.args.code.now told.0 (λ i. let fits = c.fits-code i in omega arith) told.1 in
    let same = rw c.new-words.ensures.items at told.2 in
    cc (c.in-Err.ensures.succeeds (IsUtf8-from_ascii c.push_words_of.new.out.items (subst IsAscii (sym same) ascii)))
