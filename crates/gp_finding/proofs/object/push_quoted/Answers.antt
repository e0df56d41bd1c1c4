-- Each part stands behind the one before it.
use Rattle.std.proofs.Common.{◌++◌, codes, refl}
use Rattle.gp_decode.proofs.Appending.{appends_second}
use Rattle.gp_finding.proofs.Pieces.{fails, still}
use Rattle.gp_finding.specs.Hearing.{heard_in}
use Rattle.gp_finding.specs.Words.{said_text}
use Rattle.gp_finding.proofs.object.push_quoted.Goals as goal

pub returns-in_err-push_pieces : goal.returns-in_err-push_pieces
returns-in_err-push_pieces c =
    still (codes "\"" ++ said_text c.args.said.now (heard_in c.args.mask c.args.said.now)) (codes "\"") _ _ _ _ c.from_residual.ensures.1
    (still (codes "\"") (said_text c.args.said.now (heard_in c.args.mask c.args.said.now)) _ _ _ _ c.from_residual.ensures.1
    (fails (codes "\"") _ _ _ _ c.in_err-push_pieces.field-0.0 _ c.in_err-push_pieces.was c.from_residual.ensures.1
    (c.push_pieces.ensures)))

pub returns-in_err-push_said : goal.returns-in_err-push_said
returns-in_err-push_said c =
    still (codes "\"" ++ said_text c.args.said.now (heard_in c.args.mask c.args.said.now)) (codes "\"") _ _ _ _ c.from_residual-in_err-push_said.ensures.1
    (fails (codes "\"" ++ said_text c.args.said.now (heard_in c.args.mask c.args.said.now)) _ _ _ _ c.in_err-push_said.field-0.0 _ c.in_err-push_said.was c.from_residual-in_err-push_said.ensures.1
    (appends_second (codes "\"" ++ said_text c.args.said.now (heard_in c.args.mask c.args.said.now)) (codes "\"") (said_text c.args.said.now (heard_in c.args.mask c.args.said.now)) _ _ _ _ _ c.in_ok-push_pieces.field-0 refl c.in_ok-push_pieces.was
    (c.push_pieces.ensures)
    c.push_said.ensures))

pub returns : goal.returns
returns c =
    appends_second (codes "\"" ++ said_text c.args.said.now (heard_in c.args.mask c.args.said.now) ++ codes "\"") (codes "\"" ++ said_text c.args.said.now (heard_in c.args.mask c.args.said.now)) (codes "\"") _ _ _ _ _ c.in_ok-push_said.field-0 refl c.in_ok-push_said.was
    (appends_second (codes "\"" ++ said_text c.args.said.now (heard_in c.args.mask c.args.said.now)) (codes "\"") (said_text c.args.said.now (heard_in c.args.mask c.args.said.now)) _ _ _ _ _ c.in_ok-push_pieces.field-0 refl c.in_ok-push_pieces.was
    (c.push_pieces.ensures)
    c.push_said.ensures)
    c.push_pieces-2.ensures
