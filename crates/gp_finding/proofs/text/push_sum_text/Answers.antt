-- Each part stands behind the one before it.
use Rattle.std.proofs.Common.{◌++◌, codes, refl}
use Rattle.gp_decode.proofs.Appending.{appends_second}
use Rattle.gp_finding.proofs.Pieces.{fails, still}
use Rattle.gp_finding.specs.Text.{counted_text, errors_text}
use Rattle.gp_finding.proofs.text.push_sum_text.Goals as goal

pub returns-in_err-push_counted : goal.returns-in_err-push_counted
returns-in_err-push_counted c =
    still (counted_text c.args.sum.now.lines (codes "line") (codes "lines") ++ codes ", " ++ counted_text c.args.sum.now.findings (codes "finding") (codes "findings") ++ errors_text c.args.sum.now.errors) (codes "\n") _ _ _ _ c.from_residual.ensures.1
    (still (counted_text c.args.sum.now.lines (codes "line") (codes "lines") ++ codes ", " ++ counted_text c.args.sum.now.findings (codes "finding") (codes "findings")) (errors_text c.args.sum.now.errors) _ _ _ _ c.from_residual.ensures.1
    (still (counted_text c.args.sum.now.lines (codes "line") (codes "lines") ++ codes ", ") (counted_text c.args.sum.now.findings (codes "finding") (codes "findings")) _ _ _ _ c.from_residual.ensures.1
    (still (counted_text c.args.sum.now.lines (codes "line") (codes "lines")) (codes ", ") _ _ _ _ c.from_residual.ensures.1
    (fails (counted_text c.args.sum.now.lines (codes "line") (codes "lines")) _ _ _ _ c.in_err-push_counted.field-0.0 _ c.in_err-push_counted.was c.from_residual.ensures.1
    (c.push_counted.ensures)))))

pub returns-in_err-push_pieces : goal.returns-in_err-push_pieces
returns-in_err-push_pieces c =
    still (counted_text c.args.sum.now.lines (codes "line") (codes "lines") ++ codes ", " ++ counted_text c.args.sum.now.findings (codes "finding") (codes "findings") ++ errors_text c.args.sum.now.errors) (codes "\n") _ _ _ _ c.from_residual-in_err-push_pieces.ensures.1
    (still (counted_text c.args.sum.now.lines (codes "line") (codes "lines") ++ codes ", " ++ counted_text c.args.sum.now.findings (codes "finding") (codes "findings")) (errors_text c.args.sum.now.errors) _ _ _ _ c.from_residual-in_err-push_pieces.ensures.1
    (still (counted_text c.args.sum.now.lines (codes "line") (codes "lines") ++ codes ", ") (counted_text c.args.sum.now.findings (codes "finding") (codes "findings")) _ _ _ _ c.from_residual-in_err-push_pieces.ensures.1
    (fails (counted_text c.args.sum.now.lines (codes "line") (codes "lines") ++ codes ", ") _ _ _ _ c.in_err-push_pieces.field-0.0 _ c.in_err-push_pieces.was c.from_residual-in_err-push_pieces.ensures.1
    (appends_second (counted_text c.args.sum.now.lines (codes "line") (codes "lines") ++ codes ", ") (counted_text c.args.sum.now.lines (codes "line") (codes "lines")) (codes ", ") _ _ _ _ _ c.in_ok-push_counted.field-0 refl c.in_ok-push_counted.was
    (c.push_counted.ensures)
    c.push_pieces.ensures))))

pub returns-in_err-push_counted-2 : goal.returns-in_err-push_counted-2
returns-in_err-push_counted-2 c =
    still (counted_text c.args.sum.now.lines (codes "line") (codes "lines") ++ codes ", " ++ counted_text c.args.sum.now.findings (codes "finding") (codes "findings") ++ errors_text c.args.sum.now.errors) (codes "\n") _ _ _ _ c.from_residual-in_err-push_counted-2.ensures.1
    (still (counted_text c.args.sum.now.lines (codes "line") (codes "lines") ++ codes ", " ++ counted_text c.args.sum.now.findings (codes "finding") (codes "findings")) (errors_text c.args.sum.now.errors) _ _ _ _ c.from_residual-in_err-push_counted-2.ensures.1
    (fails (counted_text c.args.sum.now.lines (codes "line") (codes "lines") ++ codes ", " ++ counted_text c.args.sum.now.findings (codes "finding") (codes "findings")) _ _ _ _ c.in_err-push_counted-2.field-0.0 _ c.in_err-push_counted-2.was c.from_residual-in_err-push_counted-2.ensures.1
    (appends_second (counted_text c.args.sum.now.lines (codes "line") (codes "lines") ++ codes ", " ++ counted_text c.args.sum.now.findings (codes "finding") (codes "findings")) (counted_text c.args.sum.now.lines (codes "line") (codes "lines") ++ codes ", ") (counted_text c.args.sum.now.findings (codes "finding") (codes "findings")) _ _ _ _ _ c.in_ok-push_pieces.field-0 refl c.in_ok-push_pieces.was
    (appends_second (counted_text c.args.sum.now.lines (codes "line") (codes "lines") ++ codes ", ") (counted_text c.args.sum.now.lines (codes "line") (codes "lines")) (codes ", ") _ _ _ _ _ c.in_ok-push_counted.field-0 refl c.in_ok-push_counted.was
    (c.push_counted.ensures)
    c.push_pieces.ensures)
    c.push_counted-2.ensures)))

pub returns-in_err-push_errors : goal.returns-in_err-push_errors
returns-in_err-push_errors c =
    still (counted_text c.args.sum.now.lines (codes "line") (codes "lines") ++ codes ", " ++ counted_text c.args.sum.now.findings (codes "finding") (codes "findings") ++ errors_text c.args.sum.now.errors) (codes "\n") _ _ _ _ c.from_residual-in_err-push_errors.ensures.1
    (fails (counted_text c.args.sum.now.lines (codes "line") (codes "lines") ++ codes ", " ++ counted_text c.args.sum.now.findings (codes "finding") (codes "findings") ++ errors_text c.args.sum.now.errors) _ _ _ _ c.in_err-push_errors.field-0.0 _ c.in_err-push_errors.was c.from_residual-in_err-push_errors.ensures.1
    (appends_second (counted_text c.args.sum.now.lines (codes "line") (codes "lines") ++ codes ", " ++ counted_text c.args.sum.now.findings (codes "finding") (codes "findings") ++ errors_text c.args.sum.now.errors) (counted_text c.args.sum.now.lines (codes "line") (codes "lines") ++ codes ", " ++ counted_text c.args.sum.now.findings (codes "finding") (codes "findings")) (errors_text c.args.sum.now.errors) _ _ _ _ _ c.in_ok-push_counted-2.field-0 refl c.in_ok-push_counted-2.was
    (appends_second (counted_text c.args.sum.now.lines (codes "line") (codes "lines") ++ codes ", " ++ counted_text c.args.sum.now.findings (codes "finding") (codes "findings")) (counted_text c.args.sum.now.lines (codes "line") (codes "lines") ++ codes ", ") (counted_text c.args.sum.now.findings (codes "finding") (codes "findings")) _ _ _ _ _ c.in_ok-push_pieces.field-0 refl c.in_ok-push_pieces.was
    (appends_second (counted_text c.args.sum.now.lines (codes "line") (codes "lines") ++ codes ", ") (counted_text c.args.sum.now.lines (codes "line") (codes "lines")) (codes ", ") _ _ _ _ _ c.in_ok-push_counted.field-0 refl c.in_ok-push_counted.was
    (c.push_counted.ensures)
    c.push_pieces.ensures)
    c.push_counted-2.ensures)
    c.push_errors.ensures))

pub returns : goal.returns
returns c =
    appends_second (counted_text c.args.sum.now.lines (codes "line") (codes "lines") ++ codes ", " ++ counted_text c.args.sum.now.findings (codes "finding") (codes "findings") ++ errors_text c.args.sum.now.errors ++ codes "\n") (counted_text c.args.sum.now.lines (codes "line") (codes "lines") ++ codes ", " ++ counted_text c.args.sum.now.findings (codes "finding") (codes "findings") ++ errors_text c.args.sum.now.errors) (codes "\n") _ _ _ _ _ c.in_ok-push_errors.field-0 refl c.in_ok-push_errors.was
    (appends_second (counted_text c.args.sum.now.lines (codes "line") (codes "lines") ++ codes ", " ++ counted_text c.args.sum.now.findings (codes "finding") (codes "findings") ++ errors_text c.args.sum.now.errors) (counted_text c.args.sum.now.lines (codes "line") (codes "lines") ++ codes ", " ++ counted_text c.args.sum.now.findings (codes "finding") (codes "findings")) (errors_text c.args.sum.now.errors) _ _ _ _ _ c.in_ok-push_counted-2.field-0 refl c.in_ok-push_counted-2.was
    (appends_second (counted_text c.args.sum.now.lines (codes "line") (codes "lines") ++ codes ", " ++ counted_text c.args.sum.now.findings (codes "finding") (codes "findings")) (counted_text c.args.sum.now.lines (codes "line") (codes "lines") ++ codes ", ") (counted_text c.args.sum.now.findings (codes "finding") (codes "findings")) _ _ _ _ _ c.in_ok-push_pieces.field-0 refl c.in_ok-push_pieces.was
    (appends_second (counted_text c.args.sum.now.lines (codes "line") (codes "lines") ++ codes ", ") (counted_text c.args.sum.now.lines (codes "line") (codes "lines")) (codes ", ") _ _ _ _ _ c.in_ok-push_counted.field-0 refl c.in_ok-push_counted.was
    (c.push_counted.ensures)
    c.push_pieces.ensures)
    c.push_counted-2.ensures)
    c.push_errors.ensures)
    c.push_pieces-2.ensures
