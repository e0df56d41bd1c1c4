-- Each part stands behind the one before it.
use Rattle.std.proofs.Common.{◌++◌, codes, refl}
use Rattle.gp_decode.proofs.Appending.{appends_second}
use Rattle.gp_finding.proofs.Pieces.{fails, still}
use Rattle.gp_finding.specs.Text.{counted_text}
use Rattle.gp_finding.proofs.text.push_some.Goals as goal

pub returns-in_err-push_pieces : goal.returns-in_err-push_pieces
returns-in_err-push_pieces c =
    still (codes ", ") (counted_text c.args.errors (codes "error") (codes "errors")) _ _ _ _ c.from_residual.ensures.1
    (fails (codes ", ") _ _ _ _ c.in_err-push_pieces.field-0.0 _ c.in_err-push_pieces.was c.from_residual.ensures.1
    (c.push_pieces.ensures))

pub returns : goal.returns
returns c =
    appends_second (codes ", " ++ counted_text c.args.errors (codes "error") (codes "errors")) (codes ", ") (counted_text c.args.errors (codes "error") (codes "errors")) _ _ _ _ _ c.in_ok-push_pieces.field-0 refl c.in_ok-push_pieces.was
    (c.push_pieces.ensures)
    c.push_counted.ensures
