-- Each part stands behind the one before it.
use Rattle.std.proofs.Common.{◌++◌, codes, refl}
use Rattle.gp_decode.proofs.Appending.{appends_second}
use Rattle.gp_finding.proofs.Pieces.{fails, still}
use Rattle.gp_watch.specs.Heard.{heard_of}
use Rattle.gp_finding.specs.Reason.{reason_text}
use Rattle.gp_finding.specs.Text.{place_text, rule_text}
use Rattle.gp_finding.specs.Words.{said_text}
use Rattle.gp_finding.proofs.Telling.{said_as}
use Rattle.gp_finding.proofs.text.push_finding_text.Goals as goal

pub returns-in_err-push_place : goal.returns-in_err-push_place
returns-in_err-push_place c =
    still (place_text c.args.place.now ++ rule_text (heard_of c.args.heard.now) c.args.rule ++ said_text c.args.said.now (heard_of c.args.heard.now) ++ codes ", " ++ reason_text c.args.why) (codes "\n") _ _ _ _ c.from_residual.ensures.1
    (still (place_text c.args.place.now ++ rule_text (heard_of c.args.heard.now) c.args.rule ++ said_text c.args.said.now (heard_of c.args.heard.now) ++ codes ", ") (reason_text c.args.why) _ _ _ _ c.from_residual.ensures.1
    (still (place_text c.args.place.now ++ rule_text (heard_of c.args.heard.now) c.args.rule ++ said_text c.args.said.now (heard_of c.args.heard.now)) (codes ", ") _ _ _ _ c.from_residual.ensures.1
    (still (place_text c.args.place.now ++ rule_text (heard_of c.args.heard.now) c.args.rule) (said_text c.args.said.now (heard_of c.args.heard.now)) _ _ _ _ c.from_residual.ensures.1
    (still (place_text c.args.place.now) (rule_text (heard_of c.args.heard.now) c.args.rule) _ _ _ _ c.from_residual.ensures.1
    (fails (place_text c.args.place.now) _ _ _ _ c.in_err-push_place.field-0.0 _ c.in_err-push_place.was c.from_residual.ensures.1
    (c.push_place.ensures))))))

pub returns-in_err-push_rule : goal.returns-in_err-push_rule
returns-in_err-push_rule c =
    still (place_text c.args.place.now ++ rule_text (heard_of c.args.heard.now) c.args.rule ++ said_text c.args.said.now (heard_of c.args.heard.now) ++ codes ", " ++ reason_text c.args.why) (codes "\n") _ _ _ _ c.from_residual-in_err-push_rule.ensures.1
    (still (place_text c.args.place.now ++ rule_text (heard_of c.args.heard.now) c.args.rule ++ said_text c.args.said.now (heard_of c.args.heard.now) ++ codes ", ") (reason_text c.args.why) _ _ _ _ c.from_residual-in_err-push_rule.ensures.1
    (still (place_text c.args.place.now ++ rule_text (heard_of c.args.heard.now) c.args.rule ++ said_text c.args.said.now (heard_of c.args.heard.now)) (codes ", ") _ _ _ _ c.from_residual-in_err-push_rule.ensures.1
    (still (place_text c.args.place.now ++ rule_text (heard_of c.args.heard.now) c.args.rule) (said_text c.args.said.now (heard_of c.args.heard.now)) _ _ _ _ c.from_residual-in_err-push_rule.ensures.1
    (fails (place_text c.args.place.now ++ rule_text (heard_of c.args.heard.now) c.args.rule) _ _ _ _ c.in_err-push_rule.field-0.0 _ c.in_err-push_rule.was c.from_residual-in_err-push_rule.ensures.1
    (appends_second (place_text c.args.place.now ++ rule_text (heard_of c.args.heard.now) c.args.rule) (place_text c.args.place.now) (rule_text (heard_of c.args.heard.now) c.args.rule) _ _ _ _ _ c.in_ok-push_place.field-0 refl c.in_ok-push_place.was
    (c.push_place.ensures)
    c.push_rule.ensures)))))

pub returns-in_err-push_said : goal.returns-in_err-push_said
returns-in_err-push_said c =
    still (place_text c.args.place.now ++ rule_text (heard_of c.args.heard.now) c.args.rule ++ said_text c.args.said.now (heard_of c.args.heard.now) ++ codes ", " ++ reason_text c.args.why) (codes "\n") _ _ _ _ c.from_residual-in_err-push_said.ensures.1
    (still (place_text c.args.place.now ++ rule_text (heard_of c.args.heard.now) c.args.rule ++ said_text c.args.said.now (heard_of c.args.heard.now) ++ codes ", ") (reason_text c.args.why) _ _ _ _ c.from_residual-in_err-push_said.ensures.1
    (still (place_text c.args.place.now ++ rule_text (heard_of c.args.heard.now) c.args.rule ++ said_text c.args.said.now (heard_of c.args.heard.now)) (codes ", ") _ _ _ _ c.from_residual-in_err-push_said.ensures.1
    (fails (place_text c.args.place.now ++ rule_text (heard_of c.args.heard.now) c.args.rule ++ said_text c.args.said.now (heard_of c.args.heard.now)) _ _ _ _ c.in_err-push_said.field-0.0 _ c.in_err-push_said.was c.from_residual-in_err-push_said.ensures.1
    (appends_second (place_text c.args.place.now ++ rule_text (heard_of c.args.heard.now) c.args.rule ++ said_text c.args.said.now (heard_of c.args.heard.now)) (place_text c.args.place.now ++ rule_text (heard_of c.args.heard.now) c.args.rule) (said_text c.args.said.now (heard_of c.args.heard.now)) _ _ _ _ _ c.in_ok-push_rule.field-0 refl c.in_ok-push_rule.was
    (appends_second (place_text c.args.place.now ++ rule_text (heard_of c.args.heard.now) c.args.rule) (place_text c.args.place.now) (rule_text (heard_of c.args.heard.now) c.args.rule) _ _ _ _ _ c.in_ok-push_place.field-0 refl c.in_ok-push_place.was
    (c.push_place.ensures)
    c.push_rule.ensures)
    (said_as c.args.said.now _ _ _ _ _ c.requires c.push_said.ensures)))))

pub returns-in_err-push_pieces : goal.returns-in_err-push_pieces
returns-in_err-push_pieces c =
    still (place_text c.args.place.now ++ rule_text (heard_of c.args.heard.now) c.args.rule ++ said_text c.args.said.now (heard_of c.args.heard.now) ++ codes ", " ++ reason_text c.args.why) (codes "\n") _ _ _ _ c.from_residual-in_err-push_pieces.ensures.1
    (still (place_text c.args.place.now ++ rule_text (heard_of c.args.heard.now) c.args.rule ++ said_text c.args.said.now (heard_of c.args.heard.now) ++ codes ", ") (reason_text c.args.why) _ _ _ _ c.from_residual-in_err-push_pieces.ensures.1
    (fails (place_text c.args.place.now ++ rule_text (heard_of c.args.heard.now) c.args.rule ++ said_text c.args.said.now (heard_of c.args.heard.now) ++ codes ", ") _ _ _ _ c.in_err-push_pieces.field-0.0 _ c.in_err-push_pieces.was c.from_residual-in_err-push_pieces.ensures.1
    (appends_second (place_text c.args.place.now ++ rule_text (heard_of c.args.heard.now) c.args.rule ++ said_text c.args.said.now (heard_of c.args.heard.now) ++ codes ", ") (place_text c.args.place.now ++ rule_text (heard_of c.args.heard.now) c.args.rule ++ said_text c.args.said.now (heard_of c.args.heard.now)) (codes ", ") _ _ _ _ _ c.in_ok-push_said.field-0 refl c.in_ok-push_said.was
    (appends_second (place_text c.args.place.now ++ rule_text (heard_of c.args.heard.now) c.args.rule ++ said_text c.args.said.now (heard_of c.args.heard.now)) (place_text c.args.place.now ++ rule_text (heard_of c.args.heard.now) c.args.rule) (said_text c.args.said.now (heard_of c.args.heard.now)) _ _ _ _ _ c.in_ok-push_rule.field-0 refl c.in_ok-push_rule.was
    (appends_second (place_text c.args.place.now ++ rule_text (heard_of c.args.heard.now) c.args.rule) (place_text c.args.place.now) (rule_text (heard_of c.args.heard.now) c.args.rule) _ _ _ _ _ c.in_ok-push_place.field-0 refl c.in_ok-push_place.was
    (c.push_place.ensures)
    c.push_rule.ensures)
    (said_as c.args.said.now _ _ _ _ _ c.requires c.push_said.ensures))
    c.push_pieces.ensures)))

pub returns-in_err-push_reason : goal.returns-in_err-push_reason
returns-in_err-push_reason c =
    still (place_text c.args.place.now ++ rule_text (heard_of c.args.heard.now) c.args.rule ++ said_text c.args.said.now (heard_of c.args.heard.now) ++ codes ", " ++ reason_text c.args.why) (codes "\n") _ _ _ _ c.from_residual-in_err-push_reason.ensures.1
    (fails (place_text c.args.place.now ++ rule_text (heard_of c.args.heard.now) c.args.rule ++ said_text c.args.said.now (heard_of c.args.heard.now) ++ codes ", " ++ reason_text c.args.why) _ _ _ _ c.in_err-push_reason.field-0.0 _ c.in_err-push_reason.was c.from_residual-in_err-push_reason.ensures.1
    (appends_second (place_text c.args.place.now ++ rule_text (heard_of c.args.heard.now) c.args.rule ++ said_text c.args.said.now (heard_of c.args.heard.now) ++ codes ", " ++ reason_text c.args.why) (place_text c.args.place.now ++ rule_text (heard_of c.args.heard.now) c.args.rule ++ said_text c.args.said.now (heard_of c.args.heard.now) ++ codes ", ") (reason_text c.args.why) _ _ _ _ _ c.in_ok-push_pieces.field-0 refl c.in_ok-push_pieces.was
    (appends_second (place_text c.args.place.now ++ rule_text (heard_of c.args.heard.now) c.args.rule ++ said_text c.args.said.now (heard_of c.args.heard.now) ++ codes ", ") (place_text c.args.place.now ++ rule_text (heard_of c.args.heard.now) c.args.rule ++ said_text c.args.said.now (heard_of c.args.heard.now)) (codes ", ") _ _ _ _ _ c.in_ok-push_said.field-0 refl c.in_ok-push_said.was
    (appends_second (place_text c.args.place.now ++ rule_text (heard_of c.args.heard.now) c.args.rule ++ said_text c.args.said.now (heard_of c.args.heard.now)) (place_text c.args.place.now ++ rule_text (heard_of c.args.heard.now) c.args.rule) (said_text c.args.said.now (heard_of c.args.heard.now)) _ _ _ _ _ c.in_ok-push_rule.field-0 refl c.in_ok-push_rule.was
    (appends_second (place_text c.args.place.now ++ rule_text (heard_of c.args.heard.now) c.args.rule) (place_text c.args.place.now) (rule_text (heard_of c.args.heard.now) c.args.rule) _ _ _ _ _ c.in_ok-push_place.field-0 refl c.in_ok-push_place.was
    (c.push_place.ensures)
    c.push_rule.ensures)
    (said_as c.args.said.now _ _ _ _ _ c.requires c.push_said.ensures))
    c.push_pieces.ensures)
    c.push_reason.ensures))

pub returns : goal.returns
returns c =
    appends_second (place_text c.args.place.now ++ rule_text (heard_of c.args.heard.now) c.args.rule ++ said_text c.args.said.now (heard_of c.args.heard.now) ++ codes ", " ++ reason_text c.args.why ++ codes "\n") (place_text c.args.place.now ++ rule_text (heard_of c.args.heard.now) c.args.rule ++ said_text c.args.said.now (heard_of c.args.heard.now) ++ codes ", " ++ reason_text c.args.why) (codes "\n") _ _ _ _ _ c.in_ok-push_reason.field-0 refl c.in_ok-push_reason.was
    (appends_second (place_text c.args.place.now ++ rule_text (heard_of c.args.heard.now) c.args.rule ++ said_text c.args.said.now (heard_of c.args.heard.now) ++ codes ", " ++ reason_text c.args.why) (place_text c.args.place.now ++ rule_text (heard_of c.args.heard.now) c.args.rule ++ said_text c.args.said.now (heard_of c.args.heard.now) ++ codes ", ") (reason_text c.args.why) _ _ _ _ _ c.in_ok-push_pieces.field-0 refl c.in_ok-push_pieces.was
    (appends_second (place_text c.args.place.now ++ rule_text (heard_of c.args.heard.now) c.args.rule ++ said_text c.args.said.now (heard_of c.args.heard.now) ++ codes ", ") (place_text c.args.place.now ++ rule_text (heard_of c.args.heard.now) c.args.rule ++ said_text c.args.said.now (heard_of c.args.heard.now)) (codes ", ") _ _ _ _ _ c.in_ok-push_said.field-0 refl c.in_ok-push_said.was
    (appends_second (place_text c.args.place.now ++ rule_text (heard_of c.args.heard.now) c.args.rule ++ said_text c.args.said.now (heard_of c.args.heard.now)) (place_text c.args.place.now ++ rule_text (heard_of c.args.heard.now) c.args.rule) (said_text c.args.said.now (heard_of c.args.heard.now)) _ _ _ _ _ c.in_ok-push_rule.field-0 refl c.in_ok-push_rule.was
    (appends_second (place_text c.args.place.now ++ rule_text (heard_of c.args.heard.now) c.args.rule) (place_text c.args.place.now) (rule_text (heard_of c.args.heard.now) c.args.rule) _ _ _ _ _ c.in_ok-push_place.field-0 refl c.in_ok-push_place.was
    (c.push_place.ensures)
    c.push_rule.ensures)
    (said_as c.args.said.now _ _ _ _ _ c.requires c.push_said.ensures))
    c.push_pieces.ensures)
    c.push_reason.ensures)
    c.push_pieces-2.ensures
