use Rattle.std.proofs.Common.{rules}
use Rattle.gp_journal.proofs.piece.Piece.len.Goals as goal

pub returns : goal.returns
returns c = search rules
