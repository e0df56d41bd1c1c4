use Rattle.std.proofs.Common.{arith}
use Rattle.gp_finding.proofs.Pieces.{all_appended, no_more, one_appended}
use Rattle.gp_finding.proofs.piece.push_pieces.Goals as goal

pub returns-in_err-push_piece : goal.returns-in_err-push_piece
returns-in_err-push_piece c =
    no_more c.args.pieces.now c.each.piece-index _ _ _ _ _ _ c.in_err-push_piece.field-0.0 _ (omega (arith, c.each-test.true)) c.in_err-push_piece.was
    c.from_residual.ensures.1 c.each.invariant c.push_piece.ensures

pub each-preserved : goal.each-preserved
each-preserved c =
    one_appended c.args.pieces.now c.each.piece-index _ _ _ _ _ c.in_ok-push_piece.field-0 (omega (arith, c.each-test.true)) c.in_ok-push_piece.was
    c.each.invariant c.push_piece.ensures

pub returns : goal.returns
returns c = all_appended c.args.pieces.now c.each.piece-index _ _ (omega (arith, c.each-test.false)) c.each.invariant
