use Rattle.std.proofs.Common.{arith}
use Rattle.gp_log.proofs.UsualLemmas.{search_word, searched}
use Rattle.gp_log.proofs.says.next_grant.Goals as goal

pub returns-in-search : goal.returns-in-search
returns-in-search c =
    let same = search_word c.next.result.0.now (omega arith) (omega arith) (omega arith) (omega arith) (omega arith) (omega arith) (omega arith) in
    searched c.args.text.now c.next.result.0.now c.next.result.1.now c.next.ensures same
