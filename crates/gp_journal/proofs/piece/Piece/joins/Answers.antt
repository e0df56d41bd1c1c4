use Rattle.std.proofs.Common.{rules}
use Rattle.gp_journal.proofs.piece.Piece.joins.Goals as goal

pub returns-then-end-first : goal.returns-then-end-first
returns-then-end-first c = search rules

pub returns-else-end-first : goal.returns-else-end-first
returns-else-end-first c = search rules
