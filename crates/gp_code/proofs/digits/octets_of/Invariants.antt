use Rattle.gp_code.proofs.PairLemmas.{AreRead}
use Rattle.gp_code.proofs.digits.octets_of.Given as goal

abbrev pub invariant-pairs : goal.invariant-pairs
invariant-pairs g l = AreRead g.row.N l.digits l.octets l.i
