use Rattle.std.proofs.Common.{arith}
use Rattle.gp_code.proofs.PairLemmas.{pair_more, pairs_end}
use Rattle.gp_code.proofs.digits.octets_of.Goals as goal

pub pairs-preserved : goal.pairs-preserved
pairs-preserved g c =
    pair_more g.row.N c.args.digits.now c.pairs.octets c.pairs.i c.digit_value.result c.digit_value-in-pairs.result c.requires.count (omega arith)
    c.digit_value.ensures.value c.digit_value-in-pairs.ensures.value c.pairs.invariant

pub returns : goal.returns
returns g c = pairs_end g.row.N c.args.digits.now c.pairs.octets c.pairs.i c.requires.count (omega arith) c.pairs.invariant
