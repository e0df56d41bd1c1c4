use Rattle.gp_log.proofs.CodeLemmas.{AreRead}
use Rattle.gp_log.proofs.code.code_at.Given as goal

abbrev pub invariant-octets : goal.invariant-octets
invariant-octets l = AreRead l.text l.octets l.rest l.i
