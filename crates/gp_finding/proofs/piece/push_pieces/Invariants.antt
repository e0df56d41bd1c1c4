use Rattle.gp_finding.proofs.Pieces.{Appended}
use Rattle.gp_finding.proofs.piece.push_pieces.Given as goal

abbrev pub invariant-each : goal.invariant-each
invariant-each l = Appended l.pieces l.piece-index l.fn.out l.out
