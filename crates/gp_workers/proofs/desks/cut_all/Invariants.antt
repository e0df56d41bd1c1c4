use Rattle.std.proofs.Common.{◌≡◌, ◌≤◌, ◌+◌, ◌++◌, List, map, vec_len}
use Rattle.std.specs.Prelude.{vec_capacity}
use Rattle.gp_journal.specs.declared.piece.Piece.{Piece}
use Rattle.gp_chassis.specs.Desk.{DeskState}
use Rattle.gp_workers.specs.Closing.{ArePiecesOf}
use Rattle.gp_workers.proofs.desks.cut_all.Given as goal

abbrev pub invariant-loop-desks : goal.invariant-loop-desks
invariant-loop-desks g l = record {
  pieces : (rest : List Piece) → ArePiecesOf l.desks.items rest → ArePiecesOf l.initial.desks.items (l.pieces.items ++ rest);
  bases : l.bases.items ≡ map (λ (desk : DeskState). desk.state) l.desks.items;
  ends : l.ends.items ≡ map (λ (desk : DeskState). desk.state) l.desks.items;
  count : vec_len l.ports + vec_len l.desks ≡ vec_len l.initial.desks;
  room : vec_len l.initial.desks ≤ vec_capacity l.ports;
  piece_room : vec_len l.desks + vec_len l.pieces ≤ vec_capacity l.pieces;
}

abbrev pub decreases-loop-desks : goal.decreases-loop-desks
decreases-loop-desks g l = vec_len l.desks
