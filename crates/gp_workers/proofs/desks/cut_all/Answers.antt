use Rattle.std.proofs.Common.{rules, List, ◌≡◌, [], sym, subst, append-nil}
use Rattle.gp_journal.specs.declared.piece.Piece.{Piece}
use Rattle.gp_chassis.specs.Desk.{DeskState}
use Rattle.gp_workers.specs.Closing.{ArePiecesOf, IsPieceOf}
use Rattle.gp_workers.proofs.Closings.{pieces_more, images_rest, empty_is}
use Rattle.gp_workers.proofs.desks.cut_all.Goals as goal

pub loop-desks-preserved : goal.loop-desks-preserved
loop-desks-preserved g c =
    let inv = c.loop-desks.invariant in
    let inside : IsPieceOf c.desk.inside.desk c.cut_at-piece.result = record { is = c.cut_at-piece.ensures.of; stands = c.cut_at-piece.ensures.was } in
    let of : IsPieceOf c.take_first.result c.cut_at-piece.result = subst (λ (d : DeskState). IsPieceOf d c.cut_at-piece.result) c.desk.view_is inside in
    record {
      pieces = pieces_more c.args.desks.items c.loop-desks.desks.items c.take_first.new.items.items c.loop-desks.pieces.items _ c.take_first.result c.cut_at-piece.result c.take_first.ensures.first (search rules) of inv.pieces;
      bases = (images_rest c.loop-desks.desks.items _ c.loop-desks.bases.items _ _ _ inv.bases c.take_first.ensures.first c.take_first-in-loop-desks.ensures.first).1;
      ends = (images_rest c.loop-desks.desks.items _ c.loop-desks.ends.items _ _ _ inv.ends c.take_first.ensures.first c.take_first-in-loop-desks-2.ensures.first).1;
      count = search rules;
      room = search rules;
      piece_room = search rules;
    }

pub returns-clause-pieces : goal.returns-clause-pieces
returns-clause-pieces g c =
    let none : c.loop-desks.desks.items ≡ [] = empty_is _ (search rules) in
    let all = c.loop-desks.invariant.pieces [] (subst (λ (w : List DeskState). ArePiecesOf w []) (sym none) tt) in
    subst (λ (w : List Piece). ArePiecesOf c.args.desks.items w) (append-nil c.loop-desks.pieces.items) all
